-- What bytes tell, read from the front: the patch whose body they are, or none where they are no body.
use Rattle.std.specs.Prelude.{ℕ, zero, suc, ◌+◌, ◌-◌, ◌*◌, ◌/◌, ◌%◌, ◌==◌, min, ℤ, Bool, true, false, ◌&&◌, not, nat_lt, nat_le, List, [], ◌∷◌, ◌++◌, length, take, drop, replicate, slice_get, Option, Some, None, is_some, option_map, option_and_then, Result, Ok, Err, if◌then◌else◌}
use Rattle.std.specs.Int.{w64, from_be_bytes}
use Rattle.std.specs.List.{list_all}
use Rattle.std.specs.Option.{option_map_or}
use Rattle.std.specs.Ordering.{is_lt}
use Rattle.metric_path.specs.Path.{path_fault}
use Rattle.ring_format.specs.Cell.{cell_in, cell_size}
use Rattle.ring_format.specs.Head.{count_in, head_result, is_zero, number_at}
use Rattle.ring_format.specs.Layout.{LayoutValue}
use Rattle.ring_format.specs.LayoutFile.{head_size, row_size}
use Rattle.ring_format.specs.Patch.{Cells, PatchValue, place_cmp}
use Rattle.ring_format.specs.declared.fault.HeadFault.{HeadFault}
use Rattle.redo_log.specs.Body.{entry_size, numbers_size}
use Rattle.redo_log.specs.declared.numbers.Numbers.{Numbers}

-- ---- cells

-- whether an archive of the layout has the slot
abbrev pub has_place : LayoutValue → ℕ × ℕ → Bool
has_place layout place = option_map_or (λ archive. nat_lt place.1 archive.points) (slice_get layout.archives place.0) false

-- whether a place comes behind the last of these cells
abbrev pub comes_behind : Cells → ℕ × ℕ → Bool
comes_behind cells place = option_map_or (λ cell. is_lt (place_cmp cell.0 place)) (slice_get cells (length cells - 1)) true

-- the place of the cell that these bytes tell
unfoldable pub place_told : List ℕ → ℕ × ℕ
place_told entry = (number_at 0 entry, number_at 4 entry)

-- the cell that they tell: none where its value does not fit
unfoldable pub cell_told : List ℕ → Option ((ℕ × ℕ) × (ℕ × ℤ))
cell_told entry = option_map (λ value. (place_told entry, ((cell_in 2 (drop 8 entry)).0, value))) (cell_in 2 (drop 8 entry)).1

-- these cells and one more: none where the layout has no such place, or it does not come behind them
abbrev pub cells_and : LayoutValue → Cells → (ℕ × ℕ) × (ℕ × ℤ) → Option Cells
cells_and layout cells cell = if has_place layout cell.0 && comes_behind cells cell.0 then Some (cells ++ cell ∷ []) else None

unfoldable pub cells_with : LayoutValue → Cells → List ℕ → Option Cells
cells_with layout cells entry = option_and_then (cells_and layout cells) (cell_told entry)

-- these cells, and so many more that the bytes tell
abbrev pub cells_told : LayoutValue → Cells → ℕ → List ℕ → Option Cells
cells_told layout cells zero bytes = Some cells
cells_told layout cells (suc n) bytes = option_and_then (λ more. cells_told layout more n (drop entry_size bytes)) (cells_with layout cells (take entry_size bytes))

-- ---- the layout

-- the greatest head's bytes: those that there are, and zeros
unfoldable pub head_room : List ℕ → List ℕ
head_room bytes = take (min (length bytes) 316) bytes ++ drop (min (length bytes) 316) (replicate 316 0)

-- where the last archive of a file with this head ends
unfoldable pub file_end : List ℕ → ℕ
file_end head = number_at (16 + row_size * (count_in head - 1)) head + cell_size * number_at (24 + row_size * (count_in head - 1)) head

-- the layout of a head of version 2 that lies within so many bytes
abbrev pub new_layout : ℕ → Result (LayoutValue × ℕ) HeadFault → Option LayoutValue
new_layout room (Ok told) = if told.1 == 2 && nat_le (head_size (length told.0.archives)) room then Some told.0 else None
new_layout room (Err fault) = None

-- the layout of the head of version 2 with which the bytes begin
unfoldable pub layout_told : List ℕ → Option LayoutValue
layout_told bytes =
    if nat_lt (length bytes) 16 then None else
    (if not (nat_le 1 (count_in bytes) && nat_le (count_in bytes) 25) then None else
    (if nat_lt (length bytes) (head_size (count_in bytes)) then None else
    new_layout (length bytes) (head_result (take (min 316 (file_end bytes)) (head_room bytes)) (file_end bytes))))

-- ---- the body

-- the number in the eight bytes at a place
unfoldable pub count_at : ℕ → List ℕ → ℕ
count_at at bytes = from_be_bytes w64 (take 8 (drop at bytes))

-- whether the number tells of a fresh patch
unfoldable pub fresh_told : ℕ → Option Bool
fresh_told number = if number == 0 then Some false else (if number == 1 then Some true else None)

-- the numbers at the front, where the path lies within the bytes
unfoldable pub numbers_told : List ℕ → Option Numbers
numbers_told bytes =
    if nat_lt (length bytes) numbers_size then None else
    (if nat_lt (length bytes) (numbers_size + number_at 0 bytes) then None else
    option_map (λ fresh. record { path_len = number_at 0 bytes; is_fresh = fresh; cell_count = count_at 8 bytes }) (fresh_told (number_at 4 bytes)))

abbrev pub path_told : List ℕ → Option (List ℕ)
path_told text = if is_some (path_fault text) then None else Some text

-- so many cells, which are all that the bytes tell
unfoldable pub entries_told : LayoutValue → ℕ → List ℕ → Option Cells
entries_told layout count bytes =
    if length bytes / entry_size == count && length bytes % entry_size == 0 then cells_told layout [] count bytes else None

-- what comes behind the numbers: the path, the head and the cells
unfoldable pub parts_told : Numbers → List ℕ → Option PatchValue
parts_told numbers bytes =
    option_and_then (λ layout.
    option_and_then (λ path.
    option_map (λ cells. record { path = path; layout = layout; fresh = numbers.is_fresh; cells = cells })
    (entries_told layout numbers.cell_count (drop (head_size (length layout.archives)) (drop numbers.path_len bytes))))
    (path_told (take numbers.path_len bytes)))
    (layout_told (drop numbers.path_len bytes))

unfoldable pub patch_told : List ℕ → Option PatchValue
patch_told bytes = option_and_then (λ numbers. parts_told numbers (drop numbers_size bytes)) (numbers_told bytes)

-- whether the bytes are the body of nothing
abbrev pub is_nothing : List ℕ → Bool
is_nothing bytes = length bytes == numbers_size && list_all is_zero bytes

unfoldable pub body_told : List ℕ → Option (Option PatchValue)
body_told bytes = if is_nothing bytes then Some None else option_map (λ patch. Some patch) (patch_told bytes)

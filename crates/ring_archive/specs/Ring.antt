-- What a ring file holds when a patch is laid over it: for each archive, a map from buckets to values.
use Rattle.std.specs.Prelude.{◌≡◌, ℕ, ℤ, pos, ◌+◌, ◌*◌, ◌^◌, ◌%◌, ◌==◌, ◌<◌, ◌≤◌, Bool, true, false, ◌&&◌, not, nat_lt, List, [], length, take, drop, map, filter, slice_get, unwrap_or, option_and_then, option_map, Option, Some, None, ⊤, IfSome, IsSomeAnd, if◌then◌else◌, unsigned_abs}
use Rattle.std.specs.List.{range_with_len}
use Rattle.std.specs.Option.{option_map_or}
use Rattle.outside_io.specs.Image.{Image}
use Rattle.ring_format.specs.declared.archive.Archive.{Archive}
use Rattle.ring_format.specs.LayoutFile.{file_size_in, offset_in}
use Rattle.ring_format.specs.Layout.{LayoutValue}
use Rattle.ring_format.specs.Head.{head_bytes_in, version_of}
use Rattle.ring_format.specs.Cell.{cell_in, cell_size_in}
use Rattle.ring_format.specs.Slot.{slot_of}
use Rattle.ring_format.specs.Patch.{IsPlace, PatchValue, cell_at}

-- ---- cells

-- where the cell of an archive's slot begins in a file of a version with these archives
abbrev pub cell_offset : ℕ → List Archive → ℕ × ℕ → ℕ
cell_offset version archives place = offset_in version archives place.0 + cell_size_in version * place.1

-- the bucket and the value in the bytes that a file of a version has in an archive's slot; no value where it does not fit
abbrev pub cell_from : ℕ → List Archive → List ℕ → ℕ × ℕ → ℕ × Option ℤ
cell_from version archives file place = cell_in version (take (cell_size_in version) (drop (cell_offset version archives place) file))

-- the same in the version of the file
unfoldable pub stored_cell : List Archive → List ℕ → ℕ × ℕ → ℕ × Option ℤ
stored_cell archives file place = cell_from (version_of file) archives file place

-- a cell of zeros, and one that a patch lays
abbrev pub zero_cell : ℕ × Option ℤ
zero_cell = (0, Some (pos 0))

abbrev pub laid_cell : ℕ × ℤ → ℕ × Option ℤ
laid_cell cell = (cell.0, Some cell.1)

-- The bucket and the value in an archive's slot: those that the patch lays there, and else those of the file.
-- A file that is yet to be created holds zero in each slot.
unfoldable pub ring_cell : PatchValue → List ℕ → ℕ × ℕ → ℕ × Option ℤ
ring_cell patch file place =
    unwrap_or (option_map laid_cell (cell_at patch.cells place)) (if patch.fresh then zero_cell else stored_cell patch.layout.archives file place)

-- the bucket in an archive's first slot, from which its slots are counted; 0 where the archive is empty
abbrev pub base_of : PatchValue → List ℕ → ℕ → ℕ
base_of patch file i = (ring_cell patch file (i, 0)).0

-- ---- values

-- a bucket of an archive is a positive multiple of its step
abbrev pub is_bucket : ℕ → Archive → Bool
is_bucket bucket archive = nat_lt 0 bucket && (bucket % archive.step == 0)

-- the value of a cell for a bucket: none where the cell holds another bucket, or a value that does not fit
abbrev pub value_for : ℕ → ℕ × Option ℤ → Option ℤ
value_for bucket cell = if cell.0 == bucket then cell.1 else None

-- the value of a bucket in an archive that is not empty
abbrev pub value_from : PatchValue → List ℕ → ℕ → Archive → ℕ → ℕ → Option ℤ
value_from patch file i archive bucket base =
    if base == 0 then None else value_for bucket (ring_cell patch file (i, slot_of base bucket archive))

-- the value of a bucket in archive `i`
unfoldable pub value_in : PatchValue → List ℕ → ℕ → Archive → ℕ → Option ℤ
value_in patch file i archive bucket =
    if is_bucket bucket archive then value_from patch file i archive bucket (base_of patch file i) else None

-- the map that archive `i` of the file means, from buckets to values
unfoldable pub value_of : PatchValue → List ℕ → ℕ → ℕ → Option ℤ
value_of patch file i bucket =
    option_and_then (λ archive. value_in patch file i archive bucket) (slice_get patch.layout.archives i)

-- ---- archives as maps

-- what archives hold: of each, by its number from 0 on, and each bucket the value
abbrev pub Rings : Type 0
Rings = ℕ → ℕ → Option ℤ

-- the file with the patch laid over it reads as these archives
abbrev pub ReadsAs : PatchValue → List ℕ → Rings → Type 0
ReadsAs patch file rings = (i bucket : ℕ) → value_of patch file i bucket ≡ rings i bucket

-- two files hold the same in every slot that the patch lays no cell in
abbrev pub AgreeAside : PatchValue → List ℕ → List ℕ → Type 0
AgreeAside patch file other = (place : ℕ × ℕ) → IsPlace patch.layout place → cell_at patch.cells place ≡ None
    → stored_cell patch.layout.archives other place ≡ stored_cell patch.layout.archives file place

-- the values of so many buckets of archive `i` from a first one on, a step apart
unfoldable pub values_from : PatchValue → List ℕ → ℕ → ℕ → ℕ → List (Option ℤ)
values_from patch file i first count =
    option_map_or (λ archive. map (λ k. value_of patch file i (first + k * archive.step)) (range_with_len 0 count)) (slice_get patch.layout.archives i) []

-- buckets of an archive of the layout, from a first one on, whose numbers and the end of the last fit 32 bits
abbrev pub FitsFrom : LayoutValue → ℕ → ℕ → ℕ → Type 0
FitsFrom layout i first count = IfSome (slice_get layout.archives i) (λ archive. first + count * archive.step < 2 ^ 32)

-- a cell that is not zero: one whose value does not fit is none
abbrev pub is_laid : ℕ × Option ℤ → Bool
is_laid cell = not ((cell.0 == 0) && option_map_or (λ value. unsigned_abs value == 0) cell.1 false)

-- the slots of archive `i` whose cell is not zero, in order
unfoldable pub stale_slots : PatchValue → List ℕ → ℕ → List ℕ
stale_slots patch file i =
    option_map_or (λ archive. filter (λ slot. is_laid (ring_cell patch file (i, slot))) (range_with_len 0 archive.points)) (slice_get patch.layout.archives i) []

-- the cells of so many slots of archive `i` as the file holds them, from one on
unfoldable pub stored_cells : List Archive → List ℕ → ℕ → ℕ → ℕ → List (ℕ × Option ℤ)
stored_cells archives file i slot count = map (λ place. stored_cell archives file (i, place)) (range_with_len slot count)

-- ---- the file of a layout

-- a patch that lays nothing over a file that is there
abbrev pub bare : List ℕ → LayoutValue → PatchValue
bare path layout = record { path = path; layout = layout; fresh = false; cells = [] }

-- the file begins with the layout's head in this version and ends with its last archive
abbrev pub IsRingFileIn : ℕ → LayoutValue → List ℕ → Type 0
IsRingFileIn version layout file =
    (take (length (head_bytes_in version layout)) file ≡ head_bytes_in version layout) × (length file ≡ file_size_in version layout.archives)

-- the same of a file that is written today
abbrev pub IsRingFile : LayoutValue → List ℕ → Type 0
IsRingFile layout file = IsRingFileIn 2 layout file

-- ---- the file on a disk

-- a fact on the file of that name, where the disk tells it
abbrev pub OnFile : Option Image → List ℕ → (List ℕ → Type 0) → Type 0
OnFile known name P = IfSome known (λ image. IsSomeAnd (image name) P)

-- a fact on the file under a patch: one without bytes where it is yet to be created, and else that on the disk,
-- where the disk tells it
abbrev pub UnderPatch : Bool → Option Image → List ℕ → (List ℕ → Type 0) → Type 0
UnderPatch true known name P = P []
UnderPatch false known name P = OnFile known name P

-- a file of this version has room for these archives
abbrev pub HasRoom : ℕ → List Archive → List ℕ → Type 0
HasRoom version archives file = (version_of file ≡ version) × (file_size_in version archives ≤ length file)

-- a file that is not yet to be created stands on the disk, with room for its layout in its version
abbrev pub HoldsRing : Bool → Option Image → List ℕ → ℕ → List Archive → Type 0
HoldsRing true known name version archives = ⊤
HoldsRing false known name version archives = OnFile known name (HasRoom version archives)

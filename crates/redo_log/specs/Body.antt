-- The body of a patch: its bytes in the log, all numbers big-endian. The length of the path stands first, in four bytes, then 1 where the
-- patch is fresh and else 0, in four, and the number of its cells, in eight; then the path, the head of a file of the layout, and the cells.
use Rattle.std.specs.Prelude.{◌≡◌, ℕ, ◌<◌, ◌^◌, ℤ, None, List, ◌++◌, length, replicate, All, Option, Some, if◌then◌else◌}
use Rattle.std.specs.Int.{w64, to_be_bytes}
use Rattle.std.specs.List.{flat_map}
use Rattle.std.specs.List.Sorted.{IsStrictlySortedBy}
use Rattle.std.specs.Map.{keys_of}
use Rattle.fixed_num.specs.Milli.{IsMilli}
use Rattle.metric_path.specs.Path.{path_fault}
use Rattle.ring_format.specs.Cell.{cell_bytes}
use Rattle.ring_format.specs.Head.{head_bytes, number_bytes}
use Rattle.ring_format.specs.Layout.{LayoutValue, layout_fault}
use Rattle.ring_format.specs.Patch.{Cells, IsPlace, PatchValue, place_cmp}

-- the bytes of the numbers at the front of a body, and of a cell
abbrev pub numbers_size : ℕ
numbers_size = 16

abbrev pub entry_size : ℕ
entry_size = 28

-- the eight bytes of a number
unfoldable pub count_bytes : ℕ → List ℕ
count_bytes n = to_be_bytes w64 n

-- a cell: its archive and its slot, and then what it holds, as in a file
unfoldable pub entry_bytes : (ℕ × ℕ) × (ℕ × ℤ) → List ℕ
entry_bytes cell = number_bytes cell.0.0 ++ (number_bytes cell.0.1 ++ cell_bytes cell.1.0 cell.1.1)

unfoldable pub entries_bytes : Cells → List ℕ
entries_bytes cells = flat_map entry_bytes cells

-- the numbers, and all that stands before the cells
unfoldable pub numbers_bytes : PatchValue → List ℕ
numbers_bytes patch = number_bytes (length patch.path) ++ (number_bytes (if patch.fresh then 1 else 0) ++ count_bytes (length patch.cells))

unfoldable pub leading_bytes : PatchValue → List ℕ
leading_bytes patch = numbers_bytes patch ++ (patch.path ++ head_bytes patch.layout)

abbrev pub body_bytes : PatchValue → List ℕ
body_bytes patch = leading_bytes patch ++ entries_bytes patch.cells

-- a cell whose bucket and value fit in a file
abbrev pub Fits : (ℕ × ℕ) × (ℕ × ℤ) → Type 0
Fits cell = (cell.1.0 < 2 ^ 32) × IsMilli cell.1.1

-- cells of a layout, each of which stands in a place of its own, in rising archive and slot
pub record AreCells (layout : LayoutValue) (cells : List ((ℕ × ℕ) × (ℕ × ℤ))) : Type 0 where
  pub rise : IsStrictlySortedBy place_cmp (keys_of cells)
  pub placed : All (IsPlace layout) (keys_of cells)
  pub fit : All Fits cells

-- a patch that a body may have: its path is legal, its layout lawful, and its cells are cells of the layout
pub record IsSound (patch : PatchValue) : Type 0 where
  pub legal : path_fault patch.path ≡ None
  pub lawful : layout_fault patch.layout.archives patch.layout.factor ≡ None
  pub cells : AreCells patch.layout patch.cells

-- the bytes are the body of the patch, or sixteen zeros, the body of nothing
abbrev pub IsBody : List ℕ → Option PatchValue → Type 0
IsBody bytes None = bytes ≡ replicate numbers_size 0
IsBody bytes (Some patch) = IsSound patch × (bytes ≡ body_bytes patch)

-- What stands on a shelf: the patch of a drain that was begun, and the runs of it that are left to write.
use Rattle.std.specs.Prelude.{◌≡◌, ℕ, ◌+◌, ◌*◌, ◌<◌, ◌≤◌, true, ⊤, List, [], ◌∷◌, ◌++◌, length, take, drop, slice_get, Option, None, Some, IfSome, IsSome, IsSomeAnd, option_and_then}
use Rattle.std.specs.List.{flat_map, range_with_len}
use Rattle.std.specs.Option.{option_map_or}
use Rattle.ring_format.specs.Cell.{cell_bytes, cell_in, cell_size}
use Rattle.ring_format.specs.Head.{head_bytes}
use Rattle.ring_format.specs.LayoutFile.{file_size_of, offset_of}
use Rattle.ring_format.specs.Patch.{Cells as Laid, PatchValue, cell_at}
use Rattle.write_shelf.specs.declared.run.Run.{Run}
use Rattle.write_shelf.specs.declared.run.Run.TheVariants.{Create, Cells, Head}
use Rattle.write_shelf.specs.Runs.{runs_of}

-- a drain that was begun
pub record DrainValue : Type 0 where
  pub patch : PatchValue
  pub left : List Run

-- the drain of a patch with these runs left to write; without one it is done
abbrev pub drain_with : PatchValue → List Run → Option DrainValue
drain_with patch [] = None
drain_with patch (run ∷ left) = Some (record { patch = patch; left = run ∷ left })

-- the runs so far are written, and those that are left, at least one, come behind them
pub record IsBegun (drain : DrainValue) : Type 0 where
  pub some : 1 ≤ length drain.left
  pub written : List Run
  pub runs : runs_of drain.patch ≡ written ++ drain.left

-- ---- the next run

abbrev pub next_run : Option DrainValue → Option Run
next_run shelf = option_and_then (λ drain. slice_get drain.left 0) shelf

-- the drain with its next run written
abbrev pub marked : Option DrainValue → Option DrainValue
marked shelf = option_and_then (λ drain. drain_with drain.patch (drop 1 drain.left)) shelf

-- this holds of the patch and the next run
abbrev pub OfNext : Option DrainValue → (PatchValue → Run → Type 0) → Type 0
OfNext shelf P = IfSome shelf (λ drain. IfSome (slice_get drain.left 0) (P drain.patch))

-- the slots of a run are the archive's, and each of them is laid
pub record AreLaid (patch : PatchValue) (archive slot count : ℕ) : Type 0 where
  pub some : 1 ≤ count
  pub few : count ≤ 341
  pub archived : archive < length patch.layout.archives
  pub within : IfSome (slice_get patch.layout.archives archive) (λ ring. slot + count ≤ ring.points)
  pub low : slot + count ≤ 4000000
  pub laid : (k : ℕ) → k < count → IsSome (cell_at patch.cells (archive, slot + k))

-- what holds of a run of a patch: a file is created with the length of its layout, and cells are written inside it
abbrev pub IsRunOf : PatchValue → Run → Type 0
IsRunOf patch (Create size) = (patch.fresh ≡ true) × (size ≡ file_size_of patch.layout.archives)
IsRunOf patch (Cells archive slot count) = AreLaid patch archive slot count
IsRunOf patch Head = patch.fresh ≡ true

-- a file is created before anything is written, and its head is written when all else is
abbrev pub ComesInTurn : DrainValue → Run → Type 0
ComesInTurn drain (Create size) = drain.left ≡ runs_of drain.patch
ComesInTurn drain (Cells archive slot count) = ⊤
ComesInTurn drain Head = drain.left ≡ Head ∷ []

-- ---- what a run writes

-- the bytes of the cell at a place, none where no cell is laid
abbrev pub bytes_at : Laid → ℕ × ℕ → List ℕ
bytes_at cells place = option_map_or (λ cell. cell_bytes cell.0 cell.1) (cell_at cells place) []

-- the bytes of the cells in so many slots of an archive, from a slot on
abbrev pub cells_bytes : Laid → ℕ → ℕ → ℕ → List ℕ
cells_bytes cells archive slot count = flat_map (λ s. bytes_at cells (archive, s)) (range_with_len slot count)

-- the bytes of a run, and where in the file they stand
abbrev pub run_bytes : PatchValue → Run → List ℕ
run_bytes patch (Create size) = []
run_bytes patch (Cells archive slot count) = cells_bytes patch.cells archive slot count
run_bytes patch Head = head_bytes patch.layout

abbrev pub run_at : PatchValue → Run → ℕ
run_at patch (Create size) = 0
run_at patch (Cells archive slot count) = offset_of patch.layout.archives archive + cell_size * slot
run_at patch Head = 0

-- each cell of the run is read back from its bytes
abbrev pub ReadsBack : PatchValue → Run → Type 0
ReadsBack patch (Create size) = ⊤
ReadsBack patch (Cells archive slot count) = (k : ℕ) → k < count
    → IsSomeAnd (cell_at patch.cells (archive, slot + k)) (λ cell. cell_in 2 (cell_bytes cell.0 cell.1) ≡ (cell.0, Some cell.1))
ReadsBack patch Head = ⊤

-- these first bytes are those of the run
pub record IsFilled (count : ℕ) (bytes : List ℕ) (patch : PatchValue) (run : Run) : Type 0 where
  pub long : count ≡ length (run_bytes patch run)
  pub front : take count bytes ≡ run_bytes patch run
  pub read : ReadsBack patch run

-- the bytes of a run stand there, inside the file
pub record StandsAt (at : ℕ) (patch : PatchValue) (run : Run) : Type 0 where
  pub place : at ≡ run_at patch run
  pub within : at + length (run_bytes patch run) ≤ file_size_of patch.layout.archives

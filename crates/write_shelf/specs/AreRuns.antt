-- What the runs of a patch are: which runs a list has to have to be theirs.
use Rattle.std.specs.Prelude.{◌≡◌, ℕ, ◌+◌, ◌≤◌, List, [], ◌∷◌, ◌++◌, map, All}
use Rattle.std.specs.List.{flat_map, range_with_len}
use Rattle.std.specs.Map.{keys_of}
use Rattle.ring_format.specs.Patch.{PatchValue}
use Rattle.write_shelf.specs.declared.run.Run.{Run}
use Rattle.write_shelf.specs.declared.run.Run.TheVariants.{Create, Cells, Head}
use Rattle.write_shelf.specs.Runs.{first_runs, last_runs}

-- so many slots of an archive that follow one another, from a slot on
abbrev pub neighbours : ℕ → ℕ → ℕ → List (ℕ × ℕ)
neighbours archive slot count = map (λ place. (archive, place)) (range_with_len slot count)

-- the places that a run writes
abbrev pub places_in : Run → List (ℕ × ℕ)
places_in (Create size) = []
places_in (Cells archive slot count) = neighbours archive slot count
places_in Head = []

-- a run of cells, at least one and at most 341
abbrev pub IsCellRun : Run → Type 0
IsCellRun (Create size) = ⊥
IsCellRun (Cells archive slot count) = (1 ≤ count) × (count ≤ 341)
IsCellRun Head = ⊥

-- the runs are cut only where they have to be: one begins right behind another only where that has 341 cells
abbrev pub AreLongest : List Run → Type 0
AreLongest runs = (before later : List Run) (archive slot count more : ℕ)
    → runs ≡ before ++ Cells archive slot count ∷ Cells archive (slot + count) more ∷ later → count ≡ 341

-- The runs of a patch: where it is fresh the file is created first and its head is written last, and between them each
-- cell is in exactly one run, in the order of the patch, which is that of rising archive and slot.
pub record AreRuns (patch : PatchValue) (runs : List Run) : Type 0 where
  pub between : List Run
  pub order : runs ≡ first_runs patch ++ (between ++ last_runs patch)
  pub each : flat_map places_in between ≡ keys_of patch.cells
  pub sizes : All IsCellRun between
  pub longest : AreLongest between

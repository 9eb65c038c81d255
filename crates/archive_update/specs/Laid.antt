-- Cells laid by a patch, and what they make of the archives.
use Rattle.std.specs.Prelude.{◌≡◌, ◌≢◌, ◌⊎◌, ℕ, ℤ, pos, ◌%◌, ◌<◌, ◌≤◌, List, [], Option, Some, slice_get, slice_index}
use Rattle.ring_format.specs.declared.archive.Archive.{Archive}
use Rattle.ring_format.specs.Layout.{LayoutValue}
use Rattle.ring_format.specs.Patch.{IsPlace, PatchValue, cell_at}
use Rattle.outside_io.specs.Image.{Image}
use Rattle.ring_archive.specs.Ring.{ReadsAs, Rings, base_of, ring_cell}
use Rattle.ring_archive.specs.View.{IsBased, OnRing}
use Rattle.ring_archive.specs.declared.view.RingView.{RingView}
use Rattle.archive_update.specs.Batch.{with_writes}

-- a positive multiple of a step
abbrev pub IsBucketOf : ℕ → ℕ → Type 0
IsBucketOf step bucket = (0 < bucket) × (bucket % step ≡ 0)

-- this is the archive of a layout at a place
pub record IsRing (layout : LayoutValue) (archive : ℕ) (ring : Archive) : Type 0 where
  pub there : slice_get layout.archives archive ≡ Some ring
  pub step : 1 ≤ ring.step
  pub points : 1 ≤ ring.points

-- the patches are of one file, and the later one lays a cell where the earlier did
pub record IsAlike (old new : PatchValue) : Type 0 where
  pub path : new.path ≡ old.path
  pub layout : new.layout ≡ old.layout
  pub fresh : new.fresh ≡ old.fresh
  pub grows : new.cells ≡ [] → old.cells ≡ []

-- one cell is laid
pub record IsLaid (old new : PatchValue) (place : ℕ × ℕ) (cell : ℕ × ℤ) : Type 0 where
  pub layout : new.layout ≡ old.layout
  pub fresh : new.fresh ≡ old.fresh
  pub here : cell_at new.cells place ≡ Some cell
  pub others : (other : ℕ × ℕ) → other ≢ place → cell_at new.cells other ≡ cell_at old.cells other

-- the base of archive `i` is known, and where the archive is empty, each slot holds the bucket 0
pub record IsReady (patch : PatchValue) (file : List ℕ) (i base : ℕ) : Type 0 where
  pub first : base_of patch file i ≡ base
  pub clear : base ≡ 0 → (slot : ℕ) → IsPlace patch.layout (i, slot) → (ring_cell patch file (i, slot)).0 ≡ 0

-- of any file under the patch: the values are written into archive `i`, which has the base `base` before, and `later` afterwards
abbrev pub Lays : PatchValue → PatchValue → ℕ → ℕ → ℕ → List (ℕ × ℤ) → Type 0
Lays old new i base later writes =
    (file : List ℕ) (rings : Rings) → IsReady old file i base → ReadsAs old file rings
    → IsReady new file i later × ReadsAs new file (with_writes old.layout.archives rings i writes)

-- zero is laid at a place, where the layout has it
abbrev pub IsZeroed : PatchValue → PatchValue → ℕ × ℕ → Type 0
IsZeroed old new place = (IsPlace old.layout place × IsLaid old new place (0, pos 0)) ⊎ ((IsPlace old.layout place → ⊥) × (new ≡ old))

-- the first `n` of these slots of archive `i` hold zero, and each other cell is as before, or zero
pub record IsCleared (old new : PatchValue) (i : ℕ) (slots : List ℕ) (n : ℕ) : Type 0 where
  pub layout : new.layout ≡ old.layout
  pub zeros : (k : ℕ) → k < n → IsPlace old.layout (i, slice_index slots k) → cell_at new.cells (i, slice_index slots k) ≡ Some (0, pos 0)
  pub others : (place : ℕ × ℕ) → (cell_at new.cells place ≡ cell_at old.cells place) ⊎ ((place.0 ≡ i) × (cell_at new.cells place ≡ Some (0, pos 0)))

-- the archives read as before, and the base of archive `i` is known
abbrev pub Prepares : PatchValue → PatchValue → ℕ → ℕ → List ℕ → Type 0
Prepares old new i base file = IsReady new file i base × ((rings : Rings) → ReadsAs old file rings → ReadsAs new file rings)

-- the archives read as before, but for what is written into archive `i`
abbrev pub Writes : List Archive → PatchValue → PatchValue → ℕ → List (ℕ × ℤ) → List ℕ → Type 0
Writes archives old new i writes file = (rings : Rings) → ReadsAs old file rings → ReadsAs new file (with_writes archives rings i writes)

-- writes are laid into archive `i`, which then has this base
pub record HasWritten (view : RingView) (known : Option Image) (old new : PatchValue) (i : ℕ) (writes : List (ℕ × ℤ)) (base : ℕ) : Type 0 where
  pub laid : OnRing view old.fresh known (Writes view.layout.archives old new i writes)
  pub based : IsBased view new known i base

-- A file of version 1 carried into a patch that writes it anew.
use Rattle.std.specs.Prelude.{◌≡◌, ℕ, ◌+◌, ℤ, ◌==◌, ◌<◌, Bool, true, not, ◌&&◌, List, [], Option, Some, None, option_map, if◌then◌else◌}
use Rattle.ring_format.specs.declared.archive.Archive.{Archive}
use Rattle.ring_format.specs.Layout.{LayoutValue}
use Rattle.ring_format.specs.Patch.{IsPlace, PatchValue, cell_at}
use Rattle.ring_archive.specs.Ring.{ReadsAs, Rings, bare, is_laid, stored_cell}
use Rattle.archive_update.specs.Laid.{IsLaid}

-- a patch that creates the file of a layout, and lays nothing yet
pub record IsBlank (given : LayoutValue) (patch : PatchValue) : Type 0 where
  pub layout : patch.layout ≡ given
  pub fresh : patch.fresh ≡ true
  pub empty : patch.cells ≡ []

-- whether an archive of a file has a base
abbrev pub has_base : List Archive → List ℕ → ℕ → Bool
has_base archives file i = not ((stored_cell archives file (i, 0)).0 == 0)

-- the value of a cell that is not zero, where it fits
abbrev pub kept_of : ℕ × Option ℤ → Option ℤ
kept_of cell = if is_laid cell then cell.1 else None

-- a patch is as before, or lays the value that is kept of a cell
abbrev pub Keeps : PatchValue → PatchValue → ℕ × ℕ → ℕ → Option ℤ → Type 0
Keeps old new place bucket None = new ≡ old
Keeps old new place bucket (Some value) = IsLaid old new place (bucket, value)

-- what is laid at a place: the file's cell where it is not zero and its archive has a base; a value that does not fit is no value
abbrev pub carried_cell : List Archive → List ℕ → ℕ × ℕ → Option (ℕ × ℤ)
carried_cell archives file place =
    if has_base archives file place.0 && is_laid (stored_cell archives file place)
    then option_map (λ value. ((stored_cell archives file place).0, value)) (stored_cell archives file place).1
    else None

-- the cells of the first archives of a file are carried into the patch, and those of the next one up to a slot
pub record CarriesTo (patch : PatchValue) (file : List ℕ) (archives slots : ℕ) : Type 0 where
  pub before : (place : ℕ × ℕ) → IsPlace patch.layout place → place.0 < archives → cell_at patch.cells place ≡ carried_cell patch.layout.archives file place
  pub here : (slot : ℕ) → slot < slots → cell_at patch.cells (archives, slot) ≡ carried_cell patch.layout.archives file (archives, slot)
  pub behind : (slot : ℕ) → cell_at patch.cells (archives, slots + slot) ≡ None
  pub later : (place : ℕ × ℕ) → archives < place.0 → cell_at patch.cells place ≡ None

-- every cell of the file that stands for anything is carried, and no other cell is laid: so without the file the patch reads as the file did
pub record Carries (old new : PatchValue) (file : List ℕ) : Type 0 where
  pub cells : (place : ℕ × ℕ) → IsPlace old.layout place → cell_at new.cells place ≡ carried_cell old.layout.archives file place
  pub reads : (rings : Rings) → ReadsAs (bare old.path old.layout) file rings → ReadsAs new [] rings

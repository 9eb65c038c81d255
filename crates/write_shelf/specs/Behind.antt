-- The runs that come behind a run.
use Rattle.std.specs.Prelude.{◌≡◌, ◌⊎◌, ℕ, ◌+◌, ◌<◌, ◌≤◌, List, [], ◌∷◌, ◌++◌, Option, None, Some, IfSome, IsSome, if◌then◌else◌}
use Rattle.std.specs.Map.{keys_of}
use Rattle.std.specs.Ordering.{is_le}
use Rattle.ring_format.specs.Patch.{Cells as Laid, PatchValue, cell_at, place_cmp}
use Rattle.write_shelf.specs.declared.run.Run.{Run}
use Rattle.write_shelf.specs.declared.run.Run.TheVariants.{Create, Cells, Head}
use Rattle.write_shelf.specs.Runs.{last_runs, runs_in}
use Rattle.write_shelf.specs.Shelf.{IsRunOf}

-- the places from one on, of places that rise
abbrev pub places_from : List (ℕ × ℕ) → ℕ × ℕ → List (ℕ × ℕ)
places_from [] from = []
places_from (place ∷ places) from = if is_le (place_cmp from place) then place ∷ places else places_from places from

-- the runs from a place on
abbrev pub runs_from : PatchValue → ℕ × ℕ → List Run
runs_from patch from = runs_in (places_from (keys_of patch.cells) from) ++ last_runs patch

-- the runs behind a run
abbrev pub runs_behind : PatchValue → Run → List Run
runs_behind patch (Create size) = runs_in (keys_of patch.cells) ++ last_runs patch
runs_behind patch (Cells archive slot count) = runs_from patch (archive, slot + count)
runs_behind patch Head = []

-- the run, if there is one, and those behind it
abbrev pub runs_with : PatchValue → Option Run → List Run
runs_with patch None = []
runs_with patch (Some run) = run ∷ runs_behind patch run

-- a search found the first of these runs, or there are none
pub record IsFirstOf (runs : List Run) (patch : PatchValue) (found : Option Run) : Type 0 where
  pub first : runs ≡ runs_with patch found
  pub sound : IfSome found (IsRunOf patch)

-- how many slots of an archive, from a slot on, are one run: all of them are laid, and the next is not, unless they are
-- as many as a run may have
pub record IsRunLength (cells : Laid) (archive slot count : ℕ) : Type 0 where
  pub some : 1 ≤ count
  pub few : count ≤ 341
  pub laid : (k : ℕ) → k < count → IsSome (cell_at cells (archive, slot + k))
  pub longest : (count ≡ 341) ⊎ (cell_at cells (archive, slot + count) ≡ None)

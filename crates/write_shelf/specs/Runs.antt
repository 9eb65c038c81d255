-- The runs of a patch: the pieces in which its file is created and its cells and its head are written, in order.
use Rattle.std.specs.Prelude.{ℕ, ◌+◌, ◌==◌, ◌&&◌, nat_lt, List, [], ◌∷◌, ◌++◌, if◌then◌else◌}
use Rattle.std.specs.Map.{keys_of}
use Rattle.ring_format.specs.LayoutFile.{file_size_of}
use Rattle.ring_format.specs.Patch.{PatchValue}
use Rattle.write_shelf.specs.declared.run.Run.{Run}
use Rattle.write_shelf.specs.declared.run.Run.TheVariants.{Create, Cells, Head}

-- The runs of so many slots of an archive, from `slot` on, and of the places behind them. The next place goes on with the
-- run where it is the archive's next slot and the run has room; else a run begins with it.
abbrev pub runs_on : ℕ → ℕ → ℕ → List (ℕ × ℕ) → List Run
runs_on archive slot count [] = Cells archive slot count ∷ []
runs_on archive slot count (place ∷ places) =
    if (archive == place.0 && slot + count == place.1) && nat_lt count 341
    then runs_on archive slot (count + 1) places
    else Cells archive slot count ∷ runs_on place.0 place.1 1 places

-- the runs of cells at these places
abbrev pub runs_in : List (ℕ × ℕ) → List Run
runs_in [] = []
runs_in (place ∷ places) = runs_on place.0 place.1 1 places

-- what comes before the cells, and what comes behind them: the file is created first, and its head is written last
abbrev pub first_runs : PatchValue → List Run
first_runs patch = if patch.fresh then Create (file_size_of patch.layout.archives) ∷ [] else []

abbrev pub last_runs : PatchValue → List Run
last_runs patch = if patch.fresh then Head ∷ [] else []

-- the runs of a patch
abbrev pub runs_of : PatchValue → List Run
runs_of patch = first_runs patch ++ (runs_in (keys_of patch.cells) ++ last_runs patch)

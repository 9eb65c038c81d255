-- What is known of a glob beforehand.
use Rattle.std.specs.Prelude.{◌↔◌, ℕ, Bool, IsTrue, List, [], ◌∷◌}
use Rattle.path_glob.specs.Faults.{Said}
use Rattle.metric_index.specs.Found.{IsFitted}

-- of the first of these paths, as many as there are verdicts, whether the glob fits each
abbrev pub AreVerdicts : Said → List (List ℕ) → List Bool → Type 0
AreVerdicts glob paths [] = Unit {0}
AreVerdicts glob [] (fits ∷ verdicts) = ⊥
AreVerdicts glob (path ∷ paths) (fits ∷ verdicts) = (IsTrue fits ↔ IsFitted glob path) × AreVerdicts glob paths verdicts

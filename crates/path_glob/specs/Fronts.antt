-- Runs of names that begin with the same bytes.
use Rattle.std.specs.Prelude.{◌≡◌, ℕ, List, ◌++◌, All}
use Rattle.path_glob.specs.Laws.{BeginsWith}

-- of these names those that begin with the front
abbrev pub IsRun : List ℕ → List (List ℕ) → List (List ℕ) → Type 0
IsRun front names run =
    (before : List (List ℕ)) × (after : List (List ℕ)) × (names ≡ before ++ (run ++ after))
    × All (λ name. BeginsWith front name → ⊥) before × All (λ name. BeginsWith front name → ⊥) after

-- what follows the names that begin with the front
abbrev pub IsBehindRun : List ℕ → List (List ℕ) → List (List ℕ) → Type 0
IsBehindRun front names rest = (run : List (List ℕ)) × (names ≡ run ++ rest) × All (BeginsWith front) run

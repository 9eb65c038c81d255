-- What a search of many paths remembers, and what is left of a path.
use Rattle.std.specs.Prelude.{◌≡◌, ◌↔◌, ℕ, Bool, IsTrue, List, [], Option, None, Some, Vec}
use Rattle.std.specs.Map.{lookup}
use Rattle.std.specs.Str.{bytes_eq}
use Rattle.metric_path.specs.Path.{nodes_of}
use Rattle.path_glob.specs.Glob.{NodeCovers}
use Rattle.path_glob.specs.Reading.{pieces_of}

-- what came of a node is whether these pieces cover it
abbrev pub IsVerdict : List ℕ → List ℕ → Bool → Type 0
IsVerdict pieces node verdict = IsTrue verdict ↔ NodeCovers (pieces_of pieces) node

-- What is remembered of a node is whether these pieces cover it.
abbrev pub AreVerdicts : {A : Type 0} → List ℕ → List (Vec ℕ A × Bool) → Type 0
AreVerdicts pieces tried =
    (node : List ℕ) (verdict : Bool) → lookup (λ key. bytes_eq node key.items) tried ≡ Some verdict
    → (IsTrue verdict ↔ NodeCovers (pieces_of pieces) node)

-- the nodes that are left of a path
abbrev pub nodes_left : Option (List ℕ) → List (List ℕ)
nodes_left None = []
nodes_left (Some path) = nodes_of path

-- What the nodes of a glob are on the way over names in byte order.
use Rattle.std.specs.Prelude.{◌≡◌, ◌≢◌, ℕ, ◌<◌, ◌↔◌, ◌⊎◌, Bool, List, [], ◌∷◌, ◌++◌, length, All, Contains, Option, Some, None}
use Rattle.metric_path.specs.Path.{nodes_of}
use Rattle.path_glob.specs.Faults.{Said}
use Rattle.find_api.specs.Nodes.{IsFound, Tells}
use Rattle.find_api.specs.declared.node.Node.{Node}

-- The node of so many nodes that a name tells, if it has as many.
abbrev pub TellsAt : ℕ → List ℕ → Option Node → Type 0
TellsAt count name None =
    (is_leaf : Bool) (path : List ℕ) → Tells is_leaf path name → length (nodes_of path) ≢ count
TellsAt count name (Some node) = Tells node.is_leaf node.path name × (length (nodes_of node.path) ≡ count)

-- the names behind those that tell the same node
abbrev pub IsBehindNode : Node → List (List ℕ) → List (List ℕ) → Type 0
IsBehindNode node others rest =
    (run : List (List ℕ)) × (others ≡ run ++ rest) × All (Tells node.is_leaf node.path) run

-- The nodes that a glob finds among the names came to the others.
abbrev pub AddsFound : Said → List (List ℕ) → List Node → List Node → Type 0
AddsFound glob names old new =
    (node : Node) → Contains new node ↔ (Contains old node ⊎ IsFound glob names node.is_leaf node.path)

-- a text behind a node: none, or one that begins with a dot
abbrev pub IsEndOfNode : List ℕ → Type 0
IsEndOfNode [] = Unit {0}
IsEndOfNode (b ∷ rest) = b ≡ 46

-- where the first nodes of a name end, so many of them, if it has as many
abbrev pub EndsNodes : ℕ → List ℕ → Option ℕ → Type 0
EndsNodes count name None = length (nodes_of name) < count
EndsNodes count name (Some at) =
    (front : List ℕ) × (rest : List ℕ) × (name ≡ front ++ rest) × (length front ≡ at)
    × (length (nodes_of front) ≡ count) × IsEndOfNode rest

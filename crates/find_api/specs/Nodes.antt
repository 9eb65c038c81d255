-- The nodes of the tree that names make, and those of them that globs find.
use Rattle.std.specs.Prelude.{◌≡◌, ℕ, Bool, true, false, ◌↔◌, ◌<◌, List, [], ◌∷◌, ◌++◌, length, Contains}
use Rattle.std.specs.Cmp.Lexicographic.{slice_cmp}
use Rattle.std.specs.List.Sorted.{IsStrictlySortedBy}
use Rattle.std.specs.Ordering.{bool_cmp, nat_cmp, on, then_cmp}
use Rattle.std.specs.declared.cmp.Ordering.{Ordering}
use Rattle.metric_path.specs.Path.{nodes_of}
use Rattle.path_glob.specs.Faults.{Said}
use Rattle.path_glob.specs.Glob.{Fits}
use Rattle.path_glob.specs.Laws.{BeginsWith}
use Rattle.find_api.specs.declared.node.Node.{Node}

-- Nodes in byte order of their paths, a branch before a leaf of the same path.
abbrev pub node_order : Node → Node → Ordering
node_order = then_cmp (on (λ node. node.path) (slice_cmp nat_cmp)) (on (λ node. node.is_leaf) bool_cmp)

-- A name is the leaf of its own path, and goes on, behind a dot, from each of its branches.
abbrev pub Tells : Bool → List ℕ → List ℕ → Type 0
Tells true path name = name ≡ path
Tells false path name = BeginsWith (path ++ 46 ∷ []) name

-- the first nodes of a name are those of a path, and others follow them
abbrev pub HasMoreNodes : List ℕ → List ℕ → Type 0
HasMoreNodes path name =
    (more : List (List ℕ)) × (0 < length more) × (nodes_of name ≡ nodes_of path ++ more)

-- A node of the tree of these names: the leaf or the branch that one of them tells.
abbrev pub IsNodeOf : List (List ℕ) → Bool → List ℕ → Type 0
IsNodeOf names is_leaf path = (name : List ℕ) × Contains names name × Tells is_leaf path name

-- A node that a glob of as many nodes fits.
abbrev pub IsFound : Said → List (List ℕ) → Bool → List ℕ → Type 0
IsFound glob names is_leaf path = Fits glob.nodes (nodes_of path) × IsNodeOf names is_leaf path

-- The nodes that a glob finds, in order and each once.
pub record Finds (glob : Said) (names : List (List ℕ)) (nodes : List Node) : Type 0 where
  pub in_order : IsStrictlySortedBy node_order nodes
  pub found : (node : Node) → Contains nodes node ↔ IsFound glob names node.is_leaf node.path

-- The paths of the nodes that some glob finds, in byte order and each once.
pub record Expands (globs : List Said) (names paths : List (List ℕ)) : Type 0 where
  pub in_order : IsStrictlySortedBy (slice_cmp nat_cmp) paths
  pub found : (path : List ℕ) → Contains paths path
      ↔ ((glob : Said) × Contains globs glob × (is_leaf : Bool) × IsFound glob names is_leaf path)

-- Names from the nodes of paths.
use Rattle.std.specs.Prelude.{ℕ, ℤ, pos, negsuc, List, [], ◌∷◌, Option, codes, filter_map, reverse, slice_get}
use Rattle.std.specs.List.{join_by}
use Rattle.metric_path.specs.Path.{nodes_of}

-- the node with a number, if there is one: 0 is the first, and a negative number counts from the end, where -1 is the last
abbrev pub numbered : List (List ℕ) → ℤ → Option (List ℕ)
numbered nodes (pos k) = slice_get nodes k
numbered nodes (negsuc k) = slice_get (reverse nodes) k

-- the nodes of a path with these numbers, joined by dots; numbers that it lacks are passed over
unfoldable pub name_by_nodes : List ℤ → List ℕ → List ℕ
name_by_nodes numbers path = join_by (λ node. node) (codes ".") (filter_map (numbered (nodes_of path)) numbers)

-- the last node of a path
abbrev pub last_node : List ℤ
last_node = negsuc 0 ∷ []

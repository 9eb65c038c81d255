-- The texts of the nodes and names that are found, in JSON.
use Rattle.std.specs.Prelude.{◌≡◌, ℕ, ◌-◌, Bool, List, [], ◌∷◌, ◌++◌, length, map, codes, slice_index_or, if◌then◌else◌}
use Rattle.json.specs.Print.{quoted}
use Rattle.metric_path.specs.Path.{nodes_of}
use Rattle.path_glob.specs.Faults.{Said}
use Rattle.find_api.specs.Nodes.{Expands, Finds}
use Rattle.find_api.specs.declared.node.Node.{Node}

-- Texts with `, ` between each two.
abbrev mutual
  pub joined : List (List ℕ) → List ℕ
  joined [] = []
  joined (text ∷ texts) = text ++ further texts

  pub further : List (List ℕ) → List ℕ
  further [] = []
  further (text ∷ texts) = codes ", " ++ (text ++ further texts)

-- the separator, but not before the first text
abbrev pub separator : Bool → List ℕ
separator is_first = if is_first then [] else codes ", "

-- the last node of a path
abbrev pub last_node : List ℕ → List ℕ
last_node path = slice_index_or (nodes_of path) (length (nodes_of path) - 1) []

-- what a node's text begins with: a branch may be opened, a leaf not
unfoldable pub node_head : Bool → List ℕ
node_head is_leaf =
    if is_leaf then codes "{\"allowChildren\": 0, \"expandable\": 0, \"leaf\": 1, \"id\": "
    else codes "{\"allowChildren\": 1, \"expandable\": 1, \"leaf\": 0, \"id\": "

unfoldable pub text_key : List ℕ
text_key = codes ", \"text\": "

unfoldable pub node_end : List ℕ
node_end = codes ", \"context\": {}}"

-- A node: its path as `id`, and its last node as `text`.
unfoldable pub node_text : Node → List ℕ
node_text node =
    node_head node.is_leaf ++ (quoted node.path ++ (text_key ++ (quoted (last_node node.path) ++ node_end)))

unfoldable pub results_head : List ℕ
results_head = codes "{\"results\": ["

-- the list of nodes
abbrev pub nodes_text : List Node → List ℕ
nodes_text nodes = codes "[" ++ (joined (map node_text nodes) ++ codes "]")

-- the list of the paths of nodes
abbrev pub results_text : List (List ℕ) → List ℕ
results_text paths = results_head ++ (joined (map quoted paths) ++ codes "]}")

-- the list of names
abbrev pub names_text : List (List ℕ) → List ℕ
names_text names = codes "[" ++ (joined (map quoted names) ++ codes "]")

-- The nodes that the last of some globs finds.
abbrev pub IsFindText : List Said → List (List ℕ) → List ℕ → Type 0
IsFindText globs names text =
    (others : List Said) × (glob : Said) × (globs ≡ others ++ glob ∷ [])
    × (nodes : List Node) × Finds glob names nodes × (text ≡ nodes_text nodes)

-- The paths that some glob finds.
abbrev pub IsExpandText : List Said → List (List ℕ) → List ℕ → Type 0
IsExpandText globs names text =
    (paths : List (List ℕ)) × Expands globs names paths × (text ≡ results_text paths)

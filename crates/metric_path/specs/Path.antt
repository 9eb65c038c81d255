-- Metric paths: nodes joined by dots.
use Rattle.std.specs.Prelude.{ℕ, ◌==◌, Bool, ◌&&◌, not, nat_le, List, length, Option, Some, option_map, Result, Ok, Err, if◌then◌else◌, position, codes}
use Rattle.std.specs.List.{slice_split, list_all, list_any}
use Rattle.std.specs.Option.{option_map_or}
use Rattle.metric_path.specs.declared.path.PathFault.{PathFault}
use Rattle.metric_path.specs.declared.path.PathFault.TheVariants.{Empty, TooLong, EmptyNode, BadByte}

-- the most bytes of a path, and of one of its nodes
abbrev pub most_path_bytes : ℕ
most_path_bytes = 1024

abbrev pub most_node_bytes : ℕ
most_node_bytes = 240

-- the dot between two nodes
abbrev pub is_dot : ℕ → Bool
is_dot b = b == 46

-- A byte that a node may hold: a printable ASCII byte other than the blank, and none of those that files,
-- tags, globs and targets use.
abbrev pub is_node_byte : ℕ → Bool
is_node_byte b = nat_le 33 b && (nat_le b 126 && not (list_any (λ x. x == b) (codes "./;*?[]{}(),\"'\\|")))

-- the nodes of a text, which dots separate
abbrev pub nodes_of : List ℕ → List (List ℕ)
nodes_of text = slice_split is_dot text

-- whether a byte may not stand in a path at all
abbrev pub is_bad_byte : ℕ → Bool
is_bad_byte b = not (is_node_byte b) && not (is_dot b)

-- The first fault of a text as a path, in this order: no bytes; a path or a node with too many bytes; a node
-- without bytes; the first byte that a path may not hold. A legal path has none.
unfoldable pub path_fault : List ℕ → Option PathFault
path_fault text =
    if length text == 0 then Some Empty else
    (if not (nat_le (length text) most_path_bytes && list_all (λ node. nat_le (length node) most_node_bytes) (nodes_of text)) then Some TooLong else
    (if list_any (λ node. length node == 0) (nodes_of text) then Some EmptyNode else
    option_map (λ at. BadByte at) (position is_bad_byte text)))

-- the text itself where it is a legal path, and its first fault where it is none
abbrev pub legal_path : List ℕ → Result (List ℕ) PathFault
legal_path text = option_map_or (λ fault. Err fault) (path_fault text) (Ok text)

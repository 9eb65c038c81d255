-- Texts of some of a path's nodes.
use Rattle.std.specs.Prelude.{ℕ, ℤ, pos, negsuc, ◌==◌, Bool, not, List, [], ◌∷◌, filter, map, reverse, slice_get}
use Rattle.std.specs.List.{enumerate_from, join_by, list_any}
use Rattle.std.specs.Option.{unwrap_or}

-- the node with a number, from 0 on, or below 0 from the end; the empty text where there is none
abbrev pub node_text : ℤ → List (List ℕ) → List ℕ
node_text (pos n) nodes = unwrap_or (slice_get nodes n) []
node_text (negsuc n) nodes = unwrap_or (slice_get (reverse nodes) n) []

-- whether a number is one of these
abbrev pub is_one_of : List ℕ → ℕ → Bool
is_one_of numbers n = list_any (λ number. number == n) numbers

-- the nodes whose numbers are none of these
abbrev pub nodes_left : List ℕ → List (List ℕ) → List (List ℕ)
nodes_left without nodes = map (λ node. node.1) (filter (λ node. not (is_one_of without node.0)) (enumerate_from 0 nodes))

-- those, joined by dots
abbrev pub text_without : List ℕ → List (List ℕ) → List ℕ
text_without without nodes = join_by (λ node. node) (46 ∷ []) (nodes_left without nodes)

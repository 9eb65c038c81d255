-- The nodes of paths are ASCII.
use Rattle.std.proofs.Common.{◌≡◌, ℕ, suc, ◌<◌, Bool, true, false, cond, List, [], ◌∷◌, length, get_or, All, Some, None, IsAscii, IsUtf8, subst}
use Rattle.std.specs.List.{AllByRecursion, onto_first, slice_get}
use Rattle.std.proofs.lemmas.List.Elements.{All-from_recursion}
use Rattle.std.proofs.lemmas.Str.{IsUtf8-from_ascii}
use Rattle.std.proofs.lemmas.Str.Ascii.{IsAscii-cons, IsAscii-nil}
use Rattle.std.proofs.lemmas.Option.{get_or_from_slice_get}
use Rattle.metric_path.specs.Path.{is_dot, nodes_of, path_fault}
use Rattle.metric_path.proofs.PathLemmas.{ascii_of_legal}

onto_ascii : (b : ℕ) (parts : List (List ℕ)) → b < 128 → AllByRecursion IsAscii parts → AllByRecursion IsAscii (onto_first b parts)
onto_ascii b [] small all = (IsAscii-cons b [] small IsAscii-nil, tt)
onto_ascii b (part ∷ parts) small all = (IsAscii-cons b part small all.0, all.1)

nodes_by : (b : ℕ) (text : List ℕ) (dot : Bool) → b < 128 → AllByRecursion IsAscii (nodes_of text) → AllByRecursion IsAscii (cond dot ([] ∷ nodes_of text) (onto_first b (nodes_of text)))
nodes_by b text true small all = (IsAscii-nil, all)
nodes_by b text false small all = onto_ascii b (nodes_of text) small all

ascii_nodes : (text : List ℕ) → IsAscii text → AllByRecursion IsAscii (nodes_of text)
ascii_nodes [] ascii = (IsAscii-nil, tt)
ascii_nodes (b ∷ text) ascii = nodes_by b text (is_dot b) (ascii 0) (ascii_nodes text (λ k. ascii (suc k)))

all_ascii : (text : List ℕ) → IsAscii text → All IsAscii (nodes_of text)
all_ascii text ascii = All-from_recursion IsAscii (nodes_of text) (ascii_nodes text ascii)

-- a node of a path is a text
pub node_is_utf8 : (path : List ℕ) → path_fault path ≡ None → (i : ℕ) (node : List ℕ) → i < length (nodes_of path) → slice_get (nodes_of path) i ≡ Some node → IsUtf8 node
node_is_utf8 path legal i node within at =
    let ascii : IsAscii (get_or (nodes_of path) i []) = all_ascii path (ascii_of_legal path legal) i [] within in
    IsUtf8-from_ascii node (subst IsAscii (get_or_from_slice_get (nodes_of path) i node [] at) ascii)

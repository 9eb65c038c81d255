-- The nodes of paths, and of the fronts of names.
use Rattle.std.proofs.Common.{◌≡◌, ℕ, suc, ◌+◌, ◌<◌, ◌≤◌, ◌↔◌, Bool, true, false, cond, ◌&&◌, ◌||◌, List, [], ◌∷◌, ◌++◌, length, take, get_or, None, Some, refl, sym, ap, ◌∙◌, arith, eqb, leb, append_assoc, length-append, le-leb, ne_eqb, ltb, le-ltb, position}
use Rattle.std.specs.List.{join_with_byte, list_all, list_any, onto_first}
use Rattle.std.proofs.lemmas.Bool.{and_parts}
use Rattle.std.proofs.lemmas.List.{get_or_append_left}
use Rattle.std.proofs.lemmas.List.Sums.{position_or_len_is}
use Rattle.std.proofs.Math.Seq.{take-append_seam}
use Rattle.std.proofs.lemmas.List.Splits.{join_with_byte-slice_split}
use Rattle.metric_path.specs.Path.{is_dot, nodes_of, most_path_bytes, most_node_bytes, is_bad_byte, path_fault}
use Rattle.metric_path.proofs.PathLemmas.{bytes_of_legal, length_of_legal, nodes_of_legal}
use Rattle.path_glob.specs.Glob.{Fits, Piece}
use Rattle.find_api.specs.Nodes.{HasMoreNodes, Tells}

-- ---- nodes of a text that a dot cuts

onto_append : (x : ℕ) (parts others : List (List ℕ)) → 0 < length parts → onto_first x (parts ++ others) ≡ onto_first x parts ++ others
onto_append x [] others some = absurd (omega (arith, some))
onto_append x (part ∷ parts) others some = refl

onto_some : (x : ℕ) (parts : List (List ℕ)) → 0 < length (onto_first x parts)
onto_some x [] = omega arith
onto_some x (part ∷ parts) = omega arith

some_by : (b : ℕ) (text : List ℕ) (dot : Bool) → 0 < length (cond dot ([] ∷ nodes_of text) (onto_first b (nodes_of text)))
some_by b text true = omega arith
some_by b text false = onto_some b (nodes_of text)

-- each text has a node
pub some_nodes : (text : List ℕ) → 0 < length (nodes_of text)
some_nodes [] = omega arith
some_nodes (b ∷ text) = some_by b text (is_dot b)

nodes_by : (b : ℕ) (front rest : List ℕ) (dot : Bool) → nodes_of (front ++ 46 ∷ rest) ≡ nodes_of front ++ nodes_of rest
    → cond dot ([] ∷ nodes_of (front ++ 46 ∷ rest)) (onto_first b (nodes_of (front ++ 46 ∷ rest))) ≡ cond dot ([] ∷ nodes_of front) (onto_first b (nodes_of front)) ++ nodes_of rest
nodes_by b front rest true both = ap (λ (l : List (List ℕ)). [] ∷ l) both
nodes_by b front rest false both = ap (onto_first b) both ∙ onto_append b (nodes_of front) (nodes_of rest) (some_nodes front)

-- the nodes before a dot, and those behind it
pub nodes_at_dot : (front rest : List ℕ) → nodes_of (front ++ 46 ∷ rest) ≡ nodes_of front ++ nodes_of rest
nodes_at_dot [] rest = refl
nodes_at_dot (b ∷ front) rest = nodes_by b front rest (is_dot b) (nodes_at_dot front rest)

pub count_at_dot : (front rest : List ℕ) → length (nodes_of (front ++ 46 ∷ rest)) ≡ length (nodes_of front) + length (nodes_of rest)
count_at_dot front rest = ap length (nodes_at_dot front rest) ∙ length-append (nodes_of front) (nodes_of rest)

-- a path is its nodes, with dots between them
pub same_nodes : (path other : List ℕ) → nodes_of path ≡ nodes_of other → path ≡ other
same_nodes path other same = sym (join_with_byte-slice_split 46 path) ∙ ap (join_with_byte 46) same ∙ join_with_byte-slice_split 46 other

-- ---- what one name tells

-- a front and the dot behind it
pub behind_dot : (path rest : List ℕ) → (path ++ 46 ∷ []) ++ rest ≡ path ++ 46 ∷ rest
behind_dot path rest = append_assoc path (46 ∷ []) rest

same_front : (path other rest more : List (List ℕ)) → path ++ rest ≡ other ++ more → length path ≡ length other → path ≡ other
same_front path other rest more same as_long =
    sym (take-append_seam path rest) ∙ ap (take (length path)) same ∙ ap (λ (n : ℕ). take n (other ++ more)) as_long ∙ take-append_seam other more

-- a name tells one node of as many nodes
pub tells_one : (is_leaf : Bool) (path : List ℕ) (leaf : Bool) (other name : List ℕ) → Tells is_leaf path name → Tells leaf other name → length (nodes_of path) ≡ length (nodes_of other)
    → (is_leaf ≡ leaf) × (path ≡ other)
tells_one true path true other name first second count = (refl, sym first ∙ second)
tells_one true path false other name first second count =
    let is : path ≡ other ++ 46 ∷ second.0 = sym first ∙ second.1 ∙ behind_dot other second.0 in
    absurd (omega (arith, count, ap (λ (l : List ℕ). length (nodes_of l)) is, count_at_dot other second.0, some_nodes second.0))
tells_one false path true other name first second count =
    let is : other ≡ path ++ 46 ∷ first.0 = sym second ∙ first.1 ∙ behind_dot path first.0 in
    absurd (omega (arith, count, ap (λ (l : List ℕ). length (nodes_of l)) is, count_at_dot path first.0, some_nodes first.0))
tells_one false path false other name first second count =
    let both : nodes_of path ++ nodes_of first.0 ≡ nodes_of other ++ nodes_of second.0 =
    sym (nodes_at_dot path first.0) ∙ ap nodes_of (sym (behind_dot path first.0) ∙ sym first.1 ∙ second.1 ∙ behind_dot other second.0) ∙ nodes_at_dot other second.0 in
    (refl, same_nodes path other (same_front (nodes_of path) (nodes_of other) (nodes_of first.0) (nodes_of second.0) both count))

-- a name has at least the nodes of what it tells
pub tells_few : (is_leaf : Bool) (path name : List ℕ) → Tells is_leaf path name → length (nodes_of path) ≤ length (nodes_of name)
tells_few true path name tells = omega (arith, ap (λ (l : List ℕ). length (nodes_of l)) tells)
tells_few false path name tells =
    omega (arith, ap (λ (l : List ℕ). length (nodes_of l)) (tells.1 ∙ behind_dot path tells.0), count_at_dot path tells.0)

-- a glob has the nodes of what it fits
pub fits_count : (globs : List (List Piece)) (nodes : List (List ℕ)) → Fits globs nodes → length globs ≡ length nodes
fits_count [] [] fits = refl
fits_count [] (node ∷ nodes) fits = absurd fits
fits_count (glob ∷ globs) [] fits = absurd fits
fits_count (glob ∷ globs) (node ∷ nodes) fits = ap (λ (n : ℕ). suc n) (fits_count globs nodes fits.1)

-- ---- fronts of names are legal

all_front : {X : Type 0} (test : X → Bool) (xs ys : List X) → list_all test (xs ++ ys) ≡ true → list_all test xs ≡ true
all_front test [] ys all = refl
all_front test (x ∷ xs) ys all =
    let both = and_parts (test x) (list_all test (xs ++ ys)) all in
    ap (λ (t : Bool). t && list_all test xs) both.0 ∙ all_front test xs ys both.1

neither : (a b : Bool) → (a || b) ≡ false → (a ≡ false) × (b ≡ false)
neither true b none = absurd cc
neither false b none = (refl, none)

none_front : {X : Type 0} (test : X → Bool) (xs ys : List X) → list_any test (xs ++ ys) ≡ false → list_any test xs ≡ false
none_front test [] ys none = refl
none_front test (x ∷ xs) ys none =
    let both = neither (test x) (list_any test (xs ++ ys)) none in
    ap (λ (t : Bool). t || list_any test xs) both.0 ∙ none_front test xs ys both.1

none_bad : (text : List ℕ) → ((k : ℕ) → k < length text → is_bad_byte (get_or text k 0) ≡ false) → position is_bad_byte text ≡ None
none_bad text clean =
    ap (λ (n : ℕ). cond (ltb n (length text)) (Some n) None)
    (position_or_len_is is_bad_byte text (length text) 0 (omega arith) clean (λ past. absurd (omega arith)))
    ∙ rw (le-ltb (length text) (length text) (omega arith)) refl

some_bytes : (text : List ℕ) → list_any (λ node. eqb (length node) 0) (nodes_of text) ≡ false → eqb (length text) 0 ≡ false
some_bytes [] filled = absurd cc
some_bytes (b ∷ text) filled = ne_eqb (length (b ∷ text)) 0 (λ none. absurd (omega arith))

-- the front of a path before one of its dots is a path
pub front_is_legal : (front rest : List ℕ) → path_fault (front ++ 46 ∷ rest) ≡ None → path_fault front ≡ None
unfolding path_fault
front_is_legal front rest legal =
    let text = front ++ 46 ∷ rest in
    let long = length_of_legal text legal in
    let nodes = nodes_of_legal text legal in
    let both = nodes_at_dot front rest in
    let all_fit = all_front (λ node. leb (length node) most_node_bytes) (nodes_of front) (nodes_of rest) (sym (ap (list_all (λ node. leb (length node) most_node_bytes)) both) ∙ nodes.0) in
    let none_empty = none_front (λ node. eqb (length node) 0) (nodes_of front) (nodes_of rest) (sym (ap (list_any (λ node. eqb (length node) 0)) both) ∙ nodes.1) in
    let some = some_bytes front none_empty in
    let fits : leb (length front) most_path_bytes ≡ true = le-leb (length front) most_path_bytes (omega (arith, long.1, length-append front (46 ∷ rest))) in
    let good = none_bad front
    (λ k within. ap is_bad_byte (sym (get_or_append_left front (46 ∷ rest) 0 k within)) ∙ bytes_of_legal text legal k (omega (arith, within, length-append front (46 ∷ rest)))) in
    rw (some, fits, all_fit, none_empty, good) refl

-- ---- the first nodes of a name

join_at_dot : (nodes more : List (List ℕ)) → 0 < length nodes → 0 < length more → join_with_byte 46 (nodes ++ more) ≡ join_with_byte 46 nodes ++ 46 ∷ join_with_byte 46 more
join_at_dot [] more some others = absurd (omega (arith, some))
join_at_dot (node ∷ []) [] some others = absurd (omega (arith, others))
join_at_dot (node ∷ []) (next ∷ more) some others = refl
join_at_dot (node ∷ next ∷ nodes) more some others =
    ap (λ (l : List ℕ). node ++ 46 ∷ l) (join_at_dot (next ∷ nodes) more (omega arith) others)
    ∙ sym (append_assoc node (46 ∷ join_with_byte 46 (next ∷ nodes)) (46 ∷ join_with_byte 46 more))

pub first_nodes : (path name : List ℕ) → Tells false path name ↔ HasMoreNodes path name
first_nodes path name = (
  λ goes. (nodes_of goes.0, some_nodes goes.0, ap nodes_of (goes.1 ∙ behind_dot path goes.0) ∙ nodes_at_dot path goes.0),
  λ has. (
    join_with_byte 46 has.0,
    sym (join_with_byte-slice_split 46 name) ∙ ap (join_with_byte 46) has.2 ∙ join_at_dot (nodes_of path) has.0 (some_nodes path) has.1
        ∙ ap (λ (l : List ℕ). l ++ 46 ∷ join_with_byte 46 has.0) (join_with_byte-slice_split 46 path) ∙ sym (behind_dot path (join_with_byte 46 has.0)),
  ),
)

-- Nodes by their numbers.
use Rattle.std.proofs.Common.{◌≡◌, ℕ, ◌+◌, ◌<◌, ℤ, pos, negsuc, ◌<ℤ◌, Bool, true, false, not, cond, List, [], ◌∷◌, ◌++◌, length, get_or, take, map, filter, reverse, slice_get, Option, refl, sym, ap, ◌∙◌, arith, Bor}
use Rattle.std.proofs.lemmas.Int.{ints}
use Rattle.std.specs.Int.RustNames.{unsigned_abs}
use Rattle.std.specs.List.{enumerate_from, flat_map, join_by}
use Rattle.std.specs.Option.{unwrap_or}
use Rattle.std.proofs.lemmas.List.{append-nil, get_or-reverse, length-map, length-reverse, length-take-le, map-append, map_more}
use Rattle.std.proofs.lemmas.Option.{slice_get_past, unwrap_or-slice_get}
use Rattle.std.proofs.lemmas.List.Elements.{filter-append}
use Rattle.series_funcs.specs.NodeTexts.{is_one_of, node_text, nodes_left}

abbrev texts : List (Bor (List ℕ)) → List (List ℕ)
texts nodes = map (λ node. node.now) nodes

-- a node by its number from the end
pub from_end : (node : ℤ) (nodes : List (List ℕ)) (place : ℕ) → node <ℤ pos 0 → place + unsigned_abs node ≡ length nodes → unwrap_or (slice_get nodes place) [] ≡ node_text node nodes
from_end (pos n) nodes place below is = absurd (omega (arith, ints, below))
from_end (negsuc n) nodes place below is =
    unwrap_or-slice_get nodes place []
    ∙ ap (λ (k : ℕ). get_or nodes k []) (omega (arith, ints, is))
    ∙ sym (get_or-reverse nodes n [] (omega (arith, ints, is)))
    ∙ sym (unwrap_or-slice_get (reverse nodes) n [])

pub none_so_far_back : (node : ℤ) (nodes : List (List ℕ)) → node <ℤ pos 0 → length nodes < unsigned_abs node → [] ≡ node_text node nodes
none_so_far_back (pos n) nodes below far = absurd (omega (arith, ints, below))
none_so_far_back (negsuc n) nodes below far =
    ap (λ (o : Option (List ℕ)). unwrap_or o []) (sym (slice_get_past (reverse nodes) n (omega (arith, ints, far, length-reverse nodes))))

enumerate_append : {X : Type 0} (n : ℕ) (xs ys : List X) → enumerate_from n (xs ++ ys) ≡ enumerate_from n xs ++ enumerate_from (n + length xs) ys
enumerate_append n [] ys = ap (λ (m : ℕ). enumerate_from m ys) (omega arith)
enumerate_append n (x ∷ xs) ys =
    ap (λ l. (n, x) ∷ l) (enumerate_append (n + 1) xs ys)
    ∙ ap (λ (m : ℕ). (n, x) ∷ (enumerate_from (n + 1) xs ++ enumerate_from m ys)) (omega arith)

text_of_one : (b : Bool) (n : ℕ) (node : List ℕ) → map (λ (x : ℕ × List ℕ). x.1) (cond b ((n, node) ∷ []) []) ≡ cond b (node ∷ []) []
text_of_one true n node = refl
text_of_one false n node = refl

left_append : (without : List ℕ) (nodes : List (List ℕ)) (node : List ℕ) → nodes_left without (nodes ++ node ∷ []) ≡ nodes_left without nodes ++ cond (not (is_one_of without (length nodes))) (node ∷ []) []
left_append without nodes node =
    let stays = λ (x : ℕ × List ℕ). not (is_one_of without x.0) in
    ap (λ (xs : List (ℕ × List ℕ)). map (λ (x : ℕ × List ℕ). x.1) (filter stays xs)) (enumerate_append 0 nodes (node ∷ []))
    ∙ ap (map (λ (x : ℕ × List ℕ). x.1)) (filter-append stays (enumerate_from 0 nodes) ((0 + length nodes, node) ∷ []))
    ∙ map-append (λ (x : ℕ × List ℕ). x.1) (filter stays (enumerate_from 0 nodes)) (filter stays ((0 + length nodes, node) ∷ []))
    ∙ ap (λ (l : List (List ℕ)). nodes_left without nodes ++ l) (text_of_one (not (is_one_of without (0 + length nodes))) (0 + length nodes) node)
    ∙ ap (λ (n : ℕ). nodes_left without nodes ++ cond (not (is_one_of without n)) (node ∷ []) []) (omega arith)

-- one node more
left_more : (without : List ℕ) (nodes : List (Bor (List ℕ))) (i : ℕ) (d : Bor (List ℕ)) (is : Bool) → i < length nodes → is_one_of without i ≡ is
    → nodes_left without (texts (take (i + 1) nodes)) ≡ nodes_left without (texts (take i nodes)) ++ cond (not is) ((get_or nodes i d).now ∷ []) []
left_more without nodes i d is within one =
    let many : length (texts (take i nodes)) ≡ i = length-map (take i nodes) (λ node. node.now) ∙ length-take-le i nodes (omega (arith, within)) in
    ap (nodes_left without) (map_more (λ node. node.now) nodes i d within)
    ∙ left_append without (texts (take i nodes)) (get_or nodes i d).now
    ∙ ap (λ (b : Bool). nodes_left without (texts (take i nodes)) ++ cond (not b) ((get_or nodes i d).now ∷ []) []) (ap (is_one_of without) many ∙ one)

pub left_skipped : (without : List ℕ) (nodes : List (Bor (List ℕ))) (left : List (List ℕ)) (i : ℕ) (d : Bor (List ℕ)) → i < length nodes → is_one_of without i ≡ true
    → left ≡ nodes_left without (texts (take i nodes)) → left ≡ nodes_left without (texts (take (i + 1) nodes))
left_skipped without nodes left i d within one so_far =
    so_far ∙ sym (append-nil (nodes_left without (texts (take i nodes)))) ∙ sym (left_more without nodes i d true within one)

pub left_kept : (without : List ℕ) (nodes left : List (Bor (List ℕ))) (i : ℕ) (d : Bor (List ℕ)) → i < length nodes → is_one_of without i ≡ false
    → texts left ≡ nodes_left without (texts (take i nodes)) → texts (left ++ get_or nodes i d ∷ []) ≡ nodes_left without (texts (take (i + 1) nodes))
left_kept without nodes left i d within one so_far =
    map-append (λ node. node.now) left (get_or nodes i d ∷ [])
    ∙ ap (λ (l : List (List ℕ)). l ++ (get_or nodes i d).now ∷ []) so_far
    ∙ sym (left_more without nodes i d false within one)

-- texts joined, read or by reference
pub joined_texts : (nodes : List (Bor (List ℕ))) → join_by (λ node. node.now) (46 ∷ []) nodes ≡ join_by (λ (text : List ℕ). text) (46 ∷ []) (texts nodes)
joined_texts [] = refl
joined_texts (node ∷ nodes) = ap (λ (l : List ℕ). node.now ++ l) (more nodes)
  where
    more : (nodes : List (Bor (List ℕ))) → flat_map (λ (n : Bor (List ℕ)). (46 ∷ []) ++ n.now) nodes ≡ flat_map (λ (text : List ℕ). (46 ∷ []) ++ text) (texts nodes)
    more [] = refl
    more (node ∷ nodes) = ap (λ (l : List ℕ). ((46 ∷ []) ++ node.now) ++ l) (more nodes)

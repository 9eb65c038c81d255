-- Lemmas on one walk over a text that finds it legal.
use Rattle.std.proofs.Common.{◌≡◌, ℕ, ◌+◌, ◌-◌, ◌<◌, ◌≤◌, ◌⊎◌, inl, inr, take, subst, Bool, true, false, ◌&&◌, ◌||◌, List, [], ◌∷◌, ◌++◌, length, All, None, Some, sym, ap, ◌∙◌, refl, arith, append-nil, append_assoc, length-append, eqb, leb, ltb, cond, le-leb, ne_eqb, le-ltb, position}
use Rattle.std.specs.List.{list_all, list_any}
use Rattle.std.proofs.lemmas.Bool.Decides.{nat_tests}
use Rattle.std.proofs.lemmas.List.{length-take-le}
use Rattle.std.proofs.lemmas.List.Elements.{All-nil, All-push}
use Rattle.std.proofs.lemmas.List.Splits.{slice_split_at, slice_split_none}
use Rattle.std.proofs.lemmas.List.Sums.{position_or_len_is}
use Rattle.metric_path.specs.Path.{is_bad_byte, is_dot, is_node_byte, most_node_bytes, most_path_bytes, nodes_of, path_fault}

abbrev all_short : List (List ℕ) → Bool
all_short nodes = list_all (λ node. leb (length node) most_node_bytes) nodes

abbrev any_empty : List (List ℕ) → Bool
any_empty nodes = list_any (λ node. eqb (length node) 0) nodes

-- What a walk over the front of a text has seen: `len` bytes of the node that is not ended yet, legal nodes
-- before them, and no byte that a path may not hold.
pub record Walked (done : List ℕ) (len : ℕ) : Type 0 where
  pub node : List ℕ
  pub within : All (λ b. is_dot b ≡ false) node
  pub counts : length node ≡ len
  pub short : (rest : List ℕ) → all_short (nodes_of (done ++ rest)) ≡ all_short (nodes_of (node ++ rest))
  pub filled : (rest : List ℕ) → any_empty (nodes_of (done ++ rest)) ≡ any_empty (nodes_of (node ++ rest))
  pub clean : All (λ b. is_bad_byte b ≡ false) done

pub Walked-none : Walked [] 0
Walked-none = record {
  node = [];
  within = All-nil _;
  counts = refl;
  short = λ rest. refl;
  filled = λ rest. refl;
  clean = All-nil _;
}

node_byte_is_no_dot : (b : ℕ) → is_node_byte b ≡ true → is_dot b ≡ false
node_byte_is_no_dot b good = grind (arith, nat_tests)

-- one more byte of a node
pub Walked-byte : (done : List ℕ) (len b : ℕ) → Walked done len → is_node_byte b ≡ true → Walked (done ++ b ∷ []) (len + 1)
Walked-byte done len b walked good = record {
  node = walked.node ++ b ∷ [];
  within = All-push (λ x. is_dot x ≡ false) walked.node b walked.within (node_byte_is_no_dot b good);
  counts = omega (arith, length-append walked.node (b ∷ []), walked.counts);
  short = λ rest. ap (λ (l : List ℕ). all_short (nodes_of l)) (append_assoc done (b ∷ []) rest) ∙ walked.short (b ∷ rest) ∙ ap (λ (l : List ℕ). all_short (nodes_of l)) (sym (append_assoc walked.node (b ∷ []) rest));
  filled = λ rest. ap (λ (l : List ℕ). any_empty (nodes_of l)) (append_assoc done (b ∷ []) rest) ∙ walked.filled (b ∷ rest) ∙ ap (λ (l : List ℕ). any_empty (nodes_of l)) (sym (append_assoc walked.node (b ∷ []) rest));
  clean = All-push (λ x. is_bad_byte x ≡ false) done b walked.clean (rw good refl);
}

-- a node and what follows its dot
split_node : (node rest : List ℕ) → All (λ b. is_dot b ≡ false) node → nodes_of (node ++ 46 ∷ rest) ≡ node ∷ nodes_of rest
split_node node rest within = slice_split_at is_dot node 46 rest within refl

-- a dot ends a node that is legal
pub Walked-dot : (done : List ℕ) (len : ℕ) → Walked done len → 0 < len → len ≤ most_node_bytes → Walked (done ++ 46 ∷ []) 0
Walked-dot done len walked some few = record {
  node = [];
  within = All-nil _;
  counts = refl;
  short = λ rest. ap (λ (l : List ℕ). all_short (nodes_of l)) (append_assoc done (46 ∷ []) rest) ∙ walked.short (46 ∷ rest) ∙ ap all_short (split_node walked.node rest walked.within)
      ∙ ap (λ (t : Bool). t && all_short (nodes_of rest)) (le-leb (length walked.node) most_node_bytes (omega (arith, walked.counts)));
  filled = λ rest. ap (λ (l : List ℕ). any_empty (nodes_of l)) (append_assoc done (46 ∷ []) rest) ∙ walked.filled (46 ∷ rest) ∙ ap any_empty (split_node walked.node rest walked.within)
      ∙ ap (λ (t : Bool). t || any_empty (nodes_of rest)) (ne_eqb (length walked.node) 0 (λ none. absurd (omega (arith, walked.counts))));
  clean = All-push (λ x. is_bad_byte x ≡ false) done 46 walked.clean refl;
}

-- no byte passes
position-none : (test : ℕ → Bool) (text : List ℕ) → All (λ b. test b ≡ false) text → position test text ≡ None
position-none test text clean =
    ap (λ (n : ℕ). cond (ltb n (length text)) (Some n) None)
    (position_or_len_is test text (length text) 0 (omega arith) (λ k within. clean k 0 within) (λ past. absurd (omega arith)))
    ∙ rw (le-ltb (length text) (length text) (omega arith)) refl

-- a text whose nodes all have bytes has bytes
some_bytes_of : (text : List ℕ) → any_empty (nodes_of text) ≡ false → eqb (length text) 0 ≡ false
some_bytes_of [] filled = absurd cc
some_bytes_of (b ∷ text) filled = ne_eqb (length (b ∷ text)) 0 (λ none. absurd (omega arith))

-- at the end of the text the last node is legal too
pub legal_from_walk : (text : List ℕ) (len : ℕ) → Walked text len → 0 < len → len ≤ most_node_bytes → length text ≤ most_path_bytes → path_fault text ≡ None
unfolding path_fault
legal_from_walk text len walked some few short =
    let last : nodes_of (walked.node ++ []) ≡ walked.node ∷ [] = ap nodes_of (append-nil walked.node) ∙ slice_split_none is_dot walked.node walked.within in
    let all_fit : all_short (nodes_of text) ≡ true =
    ap (λ (l : List ℕ). all_short (nodes_of l)) (sym (append-nil text)) ∙ walked.short [] ∙ ap all_short last
    ∙ ap (λ (t : Bool). t && true) (le-leb (length walked.node) most_node_bytes (omega (arith, walked.counts))) in
    let none_empty : any_empty (nodes_of text) ≡ false =
    ap (λ (l : List ℕ). any_empty (nodes_of l)) (sym (append-nil text)) ∙ walked.filled [] ∙ ap any_empty last
    ∙ ap (λ (t : Bool). t || false) (ne_eqb (length walked.node) 0 (λ none. absurd (omega (arith, walked.counts)))) in
    let some_bytes : eqb (length text) 0 ≡ false = some_bytes_of text none_empty in
    let fits : leb (length text) most_path_bytes ≡ true = le-leb (length text) most_path_bytes short in
    let good : position is_bad_byte text ≡ None = position-none is_bad_byte text walked.clean in
    rw (some_bytes, fits, all_fit, none_empty, good) refl

-- a front of a text that was walked over is legal, where its last node is
pub front_is_legal : (text : List ℕ) (len at start : ℕ) → len ≡ at ⊎ len ≡ 0 → (0 < len → (0 < at - start) × ((at - start ≤ most_node_bytes) × (at ≤ most_path_bytes)))
    → at ≤ length text → Walked (take at text) (at - start) → 0 < len → path_fault (take len text) ≡ None
front_is_legal text len at start (inl e) fits within walked some =
    let fit = fits some in
    subst (λ (n : ℕ). path_fault (take n text) ≡ None) (sym e)
    (legal_from_walk (take at text) (at - start) walked fit.0 fit.1.0 (omega (arith, fit.1.1, length-take-le at text within)))
front_is_legal text len at start (inr e) fits within walked some = absurd (omega (arith, e, some))

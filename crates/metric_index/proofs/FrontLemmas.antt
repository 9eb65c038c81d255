-- The least path that begins with a front.
use Rattle.std.proofs.Common.{suc, Ordering, Less, Equal, Greater, ◌≡◌, ◌≢◌, ℕ, ◌-◌, ◌<◌, ◌≤◌, Bool, true, false, cond, ◌&&◌, ◌||◌, ◌⊎◌, inl, inr, List, [], ◌∷◌, ◌++◌, length, drop, All, Some, None, subst, refl, sym, ap, ◌∙◌, arith, eqb, leb, ltb, le-leb, le-ltb, leb-true, ne_eqb, append-nil, position}
use Rattle.std.specs.List.{ends_with, list_all, list_any, onto_first}
use Rattle.std.specs.Ordering.{nat_cmp, ordering_then}
use Rattle.std.specs.Cmp.{nat_cmp_is}
use Rattle.std.specs.Cmp.Lexicographic.{pointwise, slice_cmp}
use Rattle.std.proofs.lemmas.Bool.{and_parts, cases_order, eqb-true, or_parts}
use Rattle.std.proofs.lemmas.Bool.Decides.{nat_tests}
use Rattle.std.proofs.lemmas.List.{get_or_append_left, length-append}
use Rattle.std.proofs.Math.Seq.{get_or-append_seam}
use Rattle.std.proofs.lemmas.List.Elements.{All-from_get_or, All-push}
use Rattle.std.proofs.lemmas.List.Folds.{list_all-append, list_any-append}
use Rattle.std.proofs.lemmas.List.Splits.{length-slice_split, slice_split-cons_no, slice_split-cons_yes}
use Rattle.std.proofs.lemmas.List.Sums.{position_or_len_is}
use Rattle.metric_path.specs.Path.{is_bad_byte, is_dot, most_node_bytes, most_path_bytes, nodes_of, path_fault}
use Rattle.metric_path.proofs.PathLemmas.{bytes_of_legal, length_of_legal, nodes_of_legal}
use Rattle.path_glob.specs.Laws.{BeginsWith}
use Rattle.metric_index.specs.Found.{IsLeastPath, least_text, needs_node}

-- ---- the nodes of texts with one front

-- whether no byte of a node stands at the end of a text, where none stood before it
abbrev stands_open : Bool → List ℕ → Bool
stands_open open_before [] = open_before
stands_open open_before (b ∷ rest) = stands_open (is_dot b) rest

one_less : (b c : ℕ) (rest : List ℕ) → ends_with eqb (b ∷ c ∷ rest) (46 ∷ []) ≡ ends_with eqb (c ∷ rest) (46 ∷ [])
one_less b c rest =
    let shorter : length (b ∷ c ∷ rest) - 1 ≡ suc (length (c ∷ rest) - 1) = omega arith in
    ap (λ (n : ℕ). pointwise eqb (46 ∷ []) (drop n (b ∷ c ∷ rest))) shorter

same_dot : (b : ℕ) → is_dot b ≡ pointwise eqb (46 ∷ []) (b ∷ [])
same_dot b = grind (arith, nat_tests)

ends_open : (open_before : Bool) (b : ℕ) (rest : List ℕ) → stands_open open_before (b ∷ rest) ≡ ends_with eqb (b ∷ rest) (46 ∷ [])
ends_open open_before b [] = same_dot b
ends_open open_before b (c ∷ rest) = ends_open (is_dot b) c rest ∙ sym (one_less b c rest)

needs_open : (front : List ℕ) → stands_open true front ≡ needs_node front
needs_open [] = refl
needs_open (b ∷ rest) =
    ends_open true b rest ∙ sym (ap (λ (t : Bool). t || ends_with eqb (b ∷ rest) (46 ∷ [])) (ne_eqb (length (b ∷ rest)) 0 (λ none. absurd (omega arith))))

-- the bytes of an open node, before what follows them
abbrev joined : List ℕ → List (List ℕ) → List (List ℕ)
joined last [] = last ∷ []
joined last (node ∷ nodes) = (last ++ node) ∷ nodes

-- whether a node is open without a byte, where it is the first one or not
abbrev OpenBy : List (List ℕ) → List ℕ → Bool → Bool → Type 0
OpenBy [] last open_before open_now = open_now ≡ (open_before && eqb (length last) 0)
OpenBy (node ∷ nodes) last open_before open_now = open_now ≡ eqb (length last) 0

-- the whole nodes of a front, and the one that is open at its end
record Nodes (front : List ℕ) : Type 0 where
  init : List (List ℕ)
  last : List ℕ
  whole : (more : List ℕ) → nodes_of (front ++ more) ≡ init ++ joined last (nodes_of more)
  open_by : (open_before : Bool) → OpenBy init last open_before (stands_open open_before front)

onto_joined : (b : ℕ) (last : List ℕ) (nodes : List (List ℕ)) → onto_first b (joined last nodes) ≡ joined (b ∷ last) nodes
onto_joined b last [] = refl
onto_joined b last (node ∷ nodes) = refl

joined_none : (nodes : List (List ℕ)) → 0 < length nodes → nodes ≡ joined [] nodes
joined_none [] some = absurd (omega arith)
joined_none (node ∷ nodes) some = refl

some_nodes : (text : List ℕ) → 0 < length (nodes_of text)
some_nodes text = omega (arith, length-slice_split is_dot text)

first_open : (init : List (List ℕ)) (last : List ℕ) (open_now : Bool) → OpenBy init last true open_now → open_now ≡ eqb (length last) 0
first_open [] last open_now is = is
first_open (node ∷ nodes) last open_now is = is

and_none : (t s : Bool) → s ≡ false → false ≡ (t && s)
and_none true s is = sym is
and_none false s is = refl

and_all : (t : Bool) → t ≡ (t && true)
and_all true = refl
and_all false = refl

after_dot : (b : ℕ) (front : List ℕ) → is_dot b ≡ true → Nodes front → Nodes (b ∷ front)
after_dot b front dot n = record {
  init = [] ∷ n.init;
  last = n.last;
  whole = λ more. slice_split-cons_yes is_dot b (front ++ more) dot ∙ ap (λ (l : List (List ℕ)). [] ∷ l) (n.whole more);
  open_by = λ open_before. ap (λ (t : Bool). stands_open t front) dot ∙ first_open n.init n.last (stands_open true front) (n.open_by true);
}

after_byte : (b : ℕ) (front : List ℕ) → is_dot b ≡ false → (init : List (List ℕ)) (last : List ℕ) → ((more : List ℕ) → nodes_of (front ++ more) ≡ init ++ joined last (nodes_of more))
    → ((open_before : Bool) → OpenBy init last open_before (stands_open open_before front)) → Nodes (b ∷ front)
after_byte b front byte [] last whole open_by = record {
  init = [];
  last = b ∷ last;
  whole = λ more. slice_split-cons_no is_dot b (front ++ more) byte ∙ ap (onto_first b) (whole more) ∙ onto_joined b last (nodes_of more);
  open_by = λ open_before. ap (λ (t : Bool). stands_open t front) byte ∙ open_by false ∙ and_none open_before _ (ne_eqb (length (b ∷ last)) 0 (λ none. absurd (omega arith)));
}
after_byte b front byte (node ∷ nodes) last whole open_by = record {
  init = (b ∷ node) ∷ nodes;
  last = last;
  whole = λ more. slice_split-cons_no is_dot b (front ++ more) byte ∙ ap (onto_first b) (whole more);
  open_by = λ open_before. ap (λ (t : Bool). stands_open t front) byte ∙ open_by false;
}

by_byte : (b : ℕ) (front : List ℕ) (dot : Bool) → is_dot b ≡ dot → Nodes front → Nodes (b ∷ front)
by_byte b front true dot n = after_dot b front dot n
by_byte b front false dot n = after_byte b front dot n.init n.last n.whole n.open_by

nodes_of_front : (front : List ℕ) → Nodes front
nodes_of_front [] = record { init = []; last = []; whole = λ more. joined_none (nodes_of more) (some_nodes more); open_by = λ open_before. and_all open_before }
nodes_of_front (b ∷ front) = by_byte b front (is_dot b) refl (nodes_of_front front)

needs_by_last : (front : List ℕ) (n : Nodes front) → needs_node front ≡ eqb (length n.last) 0
needs_by_last front n = sym (needs_open front) ∙ first_open n.init n.last (stands_open true front) (n.open_by true)

-- ---- legal nodes

abbrev is_short : List ℕ → Bool
is_short node = leb (length node) most_node_bytes

abbrev is_empty : List ℕ → Bool
is_empty node = eqb (length node) 0

abbrev AreLegal : List (List ℕ) → Type 0
AreLegal nodes = (list_all is_short nodes ≡ true) × (list_any is_empty nodes ≡ false)

legal_parts : (nodes others : List (List ℕ)) → AreLegal (nodes ++ others) → AreLegal nodes × AreLegal others
legal_parts nodes others legal =
    let short = and_parts (list_all is_short nodes) (list_all is_short others) (sym (list_all-append is_short nodes others) ∙ legal.0) in
    let filled = or_parts (list_any is_empty nodes) (list_any is_empty others) (sym (list_any-append is_empty nodes others) ∙ legal.1) in
    ((short.0, filled.0), (short.1, filled.1))

legal_both : (nodes others : List (List ℕ)) → AreLegal nodes → AreLegal others → AreLegal (nodes ++ others)
legal_both nodes others legal legal' = (
  list_all-append is_short nodes others ∙ rw (legal.0, legal'.0) refl,
  list_any-append is_empty nodes others ∙ rw (legal.1, legal'.1) refl,
)

legal_node : (node : List ℕ) → is_short node ≡ true → is_empty node ≡ false → AreLegal (node ∷ [])
legal_node node short filled = (rw short refl, rw filled refl)

-- a node that is open may end where it has bytes
node_ends : (last : List ℕ) (nodes : List (List ℕ)) → is_empty last ≡ false → AreLegal (joined last nodes) → AreLegal (last ∷ [])
node_ends last [] filled legal = legal
node_ends last (node ∷ nodes) filled legal =
    let short = and_parts (is_short (last ++ node)) (list_all is_short nodes) legal.0 in
    let most = leb-true (length (last ++ node)) most_node_bytes short.0 in
    legal_node last (le-leb (length last) most_node_bytes (omega (arith, most, length-append last node))) filled

legal_new_node : AreLegal ((33 ∷ []) ∷ [])
legal_new_node = (refl, refl)

-- ---- a text with legal parts is a legal path

position-none : (test : ℕ → Bool) (text : List ℕ) → All (λ b. test b ≡ false) text → position test text ≡ None
position-none test text clean =
    ap (λ (n : ℕ). cond (ltb n (length text)) (Some n) None)
    (position_or_len_is test text (length text) 0 (omega arith) (λ k within. clean k 0 within) (λ past. absurd (omega arith)))
    ∙ rw (le-ltb (length text) (length text) (omega arith)) refl

legal_text : (text : List ℕ) → 0 < length text → length text ≤ most_path_bytes → AreLegal (nodes_of text) → All (λ b. is_bad_byte b ≡ false) text → path_fault text ≡ None
unfolding path_fault
legal_text text some short nodes clean =
    let some_bytes : eqb (length text) 0 ≡ false = ne_eqb (length text) 0 (λ none. absurd (omega arith)) in
    let fits : leb (length text) most_path_bytes ≡ true = le-leb (length text) most_path_bytes short in
    let good : position is_bad_byte text ≡ None = position-none is_bad_byte text clean in
    rw (some_bytes, fits, nodes.0, nodes.1, good) refl

clean_front : (front rest : List ℕ) → path_fault (front ++ rest) ≡ None → All (λ b. is_bad_byte b ≡ false) front
clean_front front rest legal = All-from_get_or (λ b. is_bad_byte b ≡ false) front 0 (λ k within.
    let far : k < length (front ++ rest) = omega (arith, within, length-append front rest) in
    ap is_bad_byte (sym (get_or_append_left front rest 0 k within)) ∙ bytes_of_legal (front ++ rest) legal k far)

-- ---- what follows a front that needs a node

empty_first : (nodes : List (List ℕ)) → AreLegal ([] ∷ nodes) → ⊥
empty_first nodes legal = let e : ◌≡◌ {A = Bool} true false = legal.1 in absurd cc

no_bytes : (last : List ℕ) → eqb (length last) 0 ≡ true → last ≡ []
no_bytes [] none = refl
no_bytes (b ∷ last) none = absurd (let e = eqb-true (length (b ∷ last)) 0 none in omega arith)

-- the nodes of what follows are nodes of the path
nodes_behind : (front rest : List ℕ) (n : Nodes front) → n.last ≡ [] → path_fault (front ++ rest) ≡ None → AreLegal n.init × AreLegal (nodes_of rest)
nodes_behind front rest n none legal =
    let all : nodes_of (front ++ rest) ≡ n.init ++ nodes_of rest =
    n.whole rest ∙ ap (λ (l : List ℕ). n.init ++ joined l (nodes_of rest)) none ∙ ap (λ (l : List (List ℕ)). n.init ++ l) (sym (joined_none (nodes_of rest) (some_nodes rest))) in
    legal_parts n.init (nodes_of rest) (subst AreLegal all (nodes_of_legal (front ++ rest) legal))

first_byte : (b : ℕ) (rest : List ℕ) (dot : Bool) → is_dot b ≡ dot → AreLegal (nodes_of (b ∷ rest)) → is_dot b ≡ false
first_byte b rest true dot legal = absurd (empty_first (nodes_of rest) (subst AreLegal (slice_split-cons_yes is_dot b rest dot) legal))
first_byte b rest false dot legal = dot

least_byte : (b : ℕ) → is_bad_byte b ≡ false → is_dot b ≡ false → 33 ≤ b
least_byte b good byte = grind (arith, nat_tests)

-- ---- the least text is legal where a path begins with the front

legal_with_node : (front : List ℕ) (b : ℕ) (rest : List ℕ) (n : Nodes front) → n.last ≡ [] → path_fault (front ++ b ∷ rest) ≡ None → path_fault (front ++ 33 ∷ []) ≡ None
legal_with_node front b rest n none legal =
    let behind = nodes_behind front (b ∷ rest) n none legal in
    let most = length_of_legal (front ++ b ∷ rest) legal in
    let nodes : nodes_of (front ++ 33 ∷ []) ≡ n.init ++ (33 ∷ []) ∷ [] = n.whole (33 ∷ []) ∙ ap (λ (l : List ℕ). n.init ++ joined l ((33 ∷ []) ∷ [])) none in
    legal_text (front ++ 33 ∷ []) (omega (arith, length-append front (33 ∷ []))) (omega (arith, most.1, length-append front (33 ∷ []), length-append front (b ∷ rest)))
    (subst AreLegal (sym nodes) (legal_both n.init ((33 ∷ []) ∷ []) behind.0 legal_new_node))
    (All-push (λ x. is_bad_byte x ≡ false) front 33 (clean_front front (b ∷ rest) legal) refl)

legal_alone : (front rest : List ℕ) (n : Nodes front) → eqb (length n.last) 0 ≡ false → 0 < length front → path_fault (front ++ rest) ≡ None → path_fault front ≡ None
legal_alone front rest n filled some legal =
    let most = length_of_legal (front ++ rest) legal in
    let parts = legal_parts n.init (joined n.last (nodes_of rest)) (subst AreLegal (n.whole rest) (nodes_of_legal (front ++ rest) legal)) in
    let nodes : nodes_of front ≡ n.init ++ n.last ∷ [] =
    ap nodes_of (sym (append-nil front)) ∙ n.whole [] ∙ ap (λ (l : List ℕ). n.init ++ l ∷ []) (append-nil n.last) in
    legal_text front some (omega (arith, most.1, length-append front rest))
    (subst AreLegal (sym nodes) (legal_both n.init (n.last ∷ []) parts.0 (node_ends n.last (nodes_of rest) filled parts.1)))
    (clean_front front rest legal)

some_front : (front : List ℕ) → needs_node front ≡ false → 0 < length front
some_front [] filled = absurd cc
some_front (b ∷ front) filled = omega arith

legal_by : (front rest : List ℕ) (needs : Bool) → needs_node front ≡ needs → path_fault (front ++ rest) ≡ None → path_fault (least_text front) ≡ None
legal_by front [] true needs legal =
    let n = nodes_of_front front in
    let none = no_bytes n.last (sym (needs_by_last front n) ∙ needs) in
    absurd (empty_first [] (nodes_behind front [] n none legal).1)
legal_by front (b ∷ rest) true needs legal =
    let n = nodes_of_front front in
    let none = no_bytes n.last (sym (needs_by_last front n) ∙ needs) in
    ap (λ (t : Bool). path_fault (cond t (front ++ 33 ∷ []) front)) needs ∙ legal_with_node front b rest n none legal
legal_by front rest false needs legal =
    let n = nodes_of_front front in
    ap (λ (t : Bool). path_fault (cond t (front ++ 33 ∷ []) front)) needs ∙ legal_alone front rest n (sym (needs_by_last front n) ∙ needs) (some_front front needs) legal

-- ---- no path that begins with the front is below the least text

same_front : (front text other : List ℕ) → slice_cmp nat_cmp (front ++ text) (front ++ other) ≡ slice_cmp nat_cmp text other
same_front [] text other = refl
same_front (b ∷ front) text other =
    ap (λ (o : Ordering). ordering_then o (slice_cmp nat_cmp (front ++ text) (front ++ other))) (sym (nat_cmp_is b b Equal refl)) ∙ same_front front text other

not_below_none : (text : List ℕ) → slice_cmp nat_cmp text [] ≢ Less
not_below_none [] below = absurd cc
not_below_none (b ∷ text) below = absurd cc

-- what begins with a front is not below it
pub front_not_below : (front rest : List ℕ) → slice_cmp nat_cmp (front ++ rest) front ≢ Less
front_not_below front rest below =
    not_below_none rest (sym (same_front front rest []) ∙ ap (slice_cmp nat_cmp (front ++ rest)) (append-nil front) ∙ below)

not_below_node : (b : ℕ) (rest : List ℕ) → 33 ≤ b → (b ≡ 33) ⊎ ((b < 33) ⊎ (33 < b)) → slice_cmp nat_cmp (b ∷ rest) (33 ∷ []) ≢ Less
not_below_node b rest least (inl same) below =
    not_below_none rest (ap (λ (o : Ordering). ordering_then o (slice_cmp nat_cmp rest [])) (nat_cmp_is b 33 Equal same) ∙ below)
not_below_node b rest least (inr (inl lower)) below = absurd (omega arith)
not_below_node b rest least (inr (inr higher)) below =
    not_below_none (b ∷ rest) (absurd (let e : ◌≡◌ {A = Ordering} Greater Less = ap (λ (o : Ordering). ordering_then o (slice_cmp nat_cmp rest [])) (nat_cmp_is b 33 Greater higher) ∙ below in cc))

not_below_by : (front rest : List ℕ) (needs : Bool) → needs_node front ≡ needs → path_fault (front ++ rest) ≡ None → slice_cmp nat_cmp (front ++ rest) (least_text front) ≢ Less
not_below_by front [] true needs legal below =
    let n = nodes_of_front front in
    let none = no_bytes n.last (sym (needs_by_last front n) ∙ needs) in
    empty_first [] (nodes_behind front [] n none legal).1
not_below_by front (b ∷ rest) true needs legal below =
    let n = nodes_of_front front in
    let none = no_bytes n.last (sym (needs_by_last front n) ∙ needs) in
    let byte = first_byte b rest (is_dot b) refl (nodes_behind front (b ∷ rest) n none legal).1 in
    let far : length front < length (front ++ b ∷ rest) = omega (arith, length-append front (b ∷ rest)) in
    let good : is_bad_byte b ≡ false = ap is_bad_byte (sym (get_or-append_seam front b rest 0)) ∙ bytes_of_legal (front ++ b ∷ rest) legal (length front) far in
    not_below_node b rest (least_byte b good byte) (cases_order b 33)
    (sym (same_front front (b ∷ rest) (33 ∷ [])) ∙ sym (ap (λ (t : Bool). slice_cmp nat_cmp (front ++ b ∷ rest) (cond t (front ++ 33 ∷ []) front)) needs) ∙ below)
not_below_by front rest false needs legal below =
    not_below_none rest
    (sym (same_front front rest []) ∙ ap (slice_cmp nat_cmp (front ++ rest)) (append-nil front)
    ∙ sym (ap (λ (t : Bool). slice_cmp nat_cmp (front ++ rest) (cond t (front ++ 33 ∷ []) front)) needs) ∙ below)

-- ---- what is asked

begins_by : (front : List ℕ) (needs : Bool) → needs_node front ≡ needs → BeginsWith front (least_text front)
begins_by front true needs = (33 ∷ [], ap (λ (t : Bool). cond t (front ++ 33 ∷ []) front) needs)
begins_by front false needs = ([], ap (λ (t : Bool). cond t (front ++ 33 ∷ []) front) needs ∙ sym (append-nil front))

pub least_is : (front least : List ℕ) → least ≡ least_text front → IsLeastPath front (Some least)
least_is front least is = (
  subst (BeginsWith front) (sym is) (begins_by front (needs_node front) refl),
  λ path legal begins below. not_below_by front begins.0 (needs_node front) refl (subst (λ (l : List ℕ). path_fault l ≡ None) begins.1 legal)
      (sym (ap (λ (l : List ℕ). slice_cmp nat_cmp l (least_text front)) begins.1) ∙ sym (ap (slice_cmp nat_cmp path) is) ∙ below),
)

-- where the least text is no path, no path begins with the front
pub none_begins : (front text : List ℕ) → text ≡ least_text front → (path_fault text ≡ None → ⊥) → IsLeastPath front None
none_begins front text is illegal path legal begins =
    illegal (ap path_fault is ∙ legal_by front begins.0 (needs_node front) refl (subst (λ (l : List ℕ). path_fault l ≡ None) begins.1 legal))

-- The names of all metrics.
use Rattle.std.proofs.Common.{◌≡◌, ◌↔◌, inl, inr, ◌∙◌, ℕ, ◌<◌, ◌+◌, Global, Vec, List, [], ◌∷◌, ◌++◌, get_or, length, refl, sym, ap, subst, arith, rules, true, add-one, append-nil}
use Rattle.std.specs.Prelude.{Contains, Err, IfErr, IfOk, Ok, Result, slice_index_or}
use Rattle.std.specs.Cmp.{IsEquivalence}
use Rattle.std.specs.Cmp.Lexicographic.{slice_cmp}
use Rattle.std.specs.Cmp.Rules.{comparing}
use Rattle.std.specs.List.{dedup, remove}
use Rattle.std.specs.List.Sorted.{IsPermutation, IsSorted, IsStrictlySortedBy}
use Rattle.std.specs.Ordering.{eq_by_cmp, nat_cmp}
use Rattle.std.specs.Str.{bytes_eq}
use Rattle.std.proofs.lemmas.Cmp.{nat_list_cmp_total}
use Rattle.std.proofs.lemmas.List.{append_assoc}
use Rattle.std.proofs.lemmas.List.Elements.{All-head, All-tail, Contains-append_cases, Contains-append_left, Contains-append_right}
use Rattle.std.proofs.lemmas.List.Kept.{Contains-dedup, Contains-from_dedup, IsStrictlySortedBy-dedup}
use Rattle.std.proofs.lemmas.List.Sorted.{Contains-permutation, IsPermutation-sym}
use Rattle.std.proofs.lemmas.Slice.Eq.{bytes_eq-Decides}
use Rattle.std.proofs.Math.Nat.{mod-lt}
use Rattle.metric_path.specs.Class.{class_of, fnv1a}
use Rattle.carbon_history.specs.declared.entry.Entry.{Entry}
use Rattle.carbon_history.specs.declared.entry.Entry.TheVariants.{Ask}
use Rattle.carbon_history.specs.Entries.{about_class}
use Rattle.carbon_model.specs.Found.{Finds}
use Rattle.carbon_model.specs.RingFiles.{IsOfClass}
use Rattle.carbon_model.specs.Replay.{replay}
use Rattle.carbon_model.specs.State.{State}
use Rattle.carbon_model.proofs.PartLemmas.{same_sym}
use Rattle.shared_history.specs.Parts.{PassValue, greatest_ask}
use Rattle.shared_store.specs.Asking.{EntersTries, OnlyLooks}
use Rattle.shared_store.specs.Asks.{new_number}
use Rattle.shared_store.specs.Known.{AreInOrder, IsInOrder, lists_of}
use Rattle.shared_store.specs.Naming.{AsksOnce, IsNamed, IsPath, Names, NamesBelow, NamesPartly, NamesUp, PutsNames, joined}
use Rattle.shared_store.specs.Passes.{Enters}
use Rattle.shared_store.proofs.AskFoundLemmas.{below_or_same, nothing}
use Rattle.shared_store.proofs.AskPassLemmas.{only_enters, own_same}
use Rattle.shared_store.proofs.AskStateLemmas.{known_alike, part_of}

not_below : (n : ℕ) → n < 0 → ⊥
not_below n less = omega (arith, less)

pub names_none : (s : State) → NamesBelow 0 s []
names_none s = record { all = λ path. (λ c. absurd (nothing c), λ it. absurd (not_below (class_of path) it.0)) }

module _ (start : State) (list : List Entry) (class : ℕ) where
  abbrev part : State
  part = replay start (about_class class list)

  abbrev whole : State
  whole = replay start list

  less_more : (k : ℕ) → k < class → k < class + 1
  less_more k less = omega (arith, less)

  same_more : (k : ℕ) → k ≡ class → k < class + 1
  same_more k same = omega (arith, same)

  class_names : (more : List (List ℕ)) → Finds part (IsOfClass class) more → (path : List ℕ) → Contains more path ↔ ((class_of path ≡ class) × IsNamed whole path)
  class_names more finds path = (
    λ c. let it = (finds.found path).0 c in
        (it.0.here, record { legal = it.0.legal; known = known_alike class part whole path (same_sym class whole part (part_of start list class)) it.0.here it.1 }),
    λ it. (finds.found path).1 (record { legal = it.1.legal; here = it.0 }, known_alike class whole part path (part_of start list class) it.0 it.1.known),
  )

  pub names_more : (names more : List (List ℕ)) → NamesBelow class whole names → Finds part (IsOfClass class) more → NamesBelow (class + 1) whole (names ++ more)
  names_more names more before finds = record {
    all = λ path. (
      λ c. elim (Contains-append_cases names more path c) [
        | inl old ↦ let it = (before.all path).0 old in (less_more (class_of path) it.0, it.1)
        | inr new ↦ let it = (class_names more finds path).0 new in (same_more (class_of path) it.0, it.1)
      ],
      λ it. elim (below_or_same (class_of path) class it.0) [
        | inl less ↦ Contains-append_left names more path ((before.all path).1 (less, it.1))
        | inr same ↦ Contains-append_right names more path ((class_names more finds path).1 (same, it.1))
      ],
    );
  }

pub names_up : (s : State) (names : List (List ℕ)) → NamesBelow 16 s names → NamesUp s names
names_up s names below = record { all = λ path. (λ c. ((below.all path).0 c).1, λ it. (below.all path).1 (mod-lt (fnv1a path) (omega arith), it)) }

path_equiv : IsEquivalence bytes_eq
path_equiv = search (comparing, rules) depth 9

path_ties : (a b : List ℕ) → bytes_eq a b ≡ eq_by_cmp (slice_cmp nat_cmp) a b
path_ties = search (comparing, rules) depth 9

path_exact : (a b : List ℕ) → bytes_eq a b ≡ true → a ≡ b
path_exact a b e = (bytes_eq-Decides a b).0 e

pub puts_names : (names sorted once : List (List ℕ)) → IsPermutation names sorted → IsSorted (slice_cmp nat_cmp) sorted → once ≡ dedup bytes_eq sorted → PutsNames names once
puts_names names sorted once moved ordered is = record {
  in_order = subst (IsStrictlySortedBy (slice_cmp nat_cmp)) (sym is) (IsStrictlySortedBy-dedup nat_list_cmp_total path_ties sorted ordered);
  all = λ path. (
    λ c. Contains-permutation sorted names path (IsPermutation-sym names sorted moved) (Contains-from_dedup bytes_eq sorted path (subst (λ (l : List (List ℕ)). Contains l path) is c)),
    λ c. subst (λ (l : List (List ℕ)). Contains l path) (sym is) (Contains-dedup path_equiv path_exact sorted path (Contains-permutation names sorted path moved c)),
  );
}

pub names_found : (s : State) (names sorted : List (List ℕ)) → NamesUp s names → PutsNames names sorted → Finds s IsPath sorted
names_found s names sorted up puts = record {
  in_order = puts.in_order;
  found = λ path. (
    λ c. let it = (up.all path).0 ((puts.all path).0 c) in (it.legal, it.known),
    λ it. (puts.all path).1 ((up.all path).1 (record { legal = it.0; known = it.1 })),
  );
}

pub if_ok : {A E : Type 0} (P Q : A → Type 0) (r : Result A E) → ((x : A) → P x → Q x) → IfOk r P → IfOk r Q
if_ok P Q (Ok x) more here = more x here
if_ok P Q (Err e) more here = tt

module _ (start : State) (passes now : ℕ) (old new : PassValue) (tries : EntersTries start passes now 1 old new) where
  pub asks_once : AsksOnce start passes now old new
  asks_once = record { enters = tries.enters; between = tries.between; last = tries.seen }

  pub names_are : (names sorted : List (List ℕ)) → NamesUp (replay start new.seen) names → PutsNames names sorted → Names start passes now sorted old new
  names_are names sorted up puts = record { asks = asks_once; all = names_found (replay start new.seen) names sorted up puts }

-- ---- names that were learnt before the question

once_behind : (start : State) (passes now : ℕ) (old mid new : PassValue) → OnlyLooks old mid → AsksOnce start passes now mid new → AsksOnce start passes now old new
once_behind start passes now old mid new only once =
    let same : Ask mid.number (new_number mid) 1 now ≡ Ask old.number (new_number old) 1 now = λ i. Ask (only.number i) (greatest_ask (own_same old mid only i) + 1) 1 now in
    record {
      enters = subst (λ (e : Entry). Enters start passes (e ∷ []) old new) same (only_enters start passes (Ask mid.number (new_number mid) 1 now ∷ []) old mid new only once.enters);
      between = once.between;
      last = once.last ∙ (λ i. (only.seen i ++ once.between) ++ same i ∷ []);
    }

pub names_behind : (start : State) (passes now : ℕ) (names : List (List ℕ)) (old mid new : PassValue) → OnlyLooks old mid → Names start passes now names mid new → Names start passes now names old new
names_behind start passes now names old mid new only told = record { asks = once_behind start passes now old mid new only told.asks; all = told.all }

pub partly_behind : (start : State) (passes now : ℕ) (old mid new : PassValue) → OnlyLooks old mid → NamesPartly start passes now mid new → NamesPartly start passes now old new
partly_behind start passes now old mid new only (inl none) = inl (only_enters start passes [] old mid new only none)
partly_behind start passes now old mid new only (inr once) = inr (once_behind start passes now old mid new only once)

-- ---- lists of names

pub joined_push : (lists : List (List (List ℕ))) (names : List (List ℕ)) → joined (lists ++ names ∷ []) ≡ joined lists ++ names
joined_push [] names = append-nil names
joined_push (list ∷ lists) names = ap (λ (l : List (List ℕ)). list ++ l) (joined_push lists names) ∙ sym (append_assoc list (joined lists) names)

pub first_list : (lists : List (Vec (List ℕ) Global)) (d : Vec (List ℕ) Global) → 0 < length lists → get_or (lists_of lists) 0 [] ≡ (slice_index_or lists 0 d).items
first_list [] d some = absurd (omega (arith, some))
first_list (list ∷ lists) d some = refl

pub lists_behind : (lists : List (Vec (List ℕ) Global)) (k : ℕ) → get_or (lists_of (remove lists 0)) k [] ≡ get_or (lists_of lists) (k + 1) []
lists_behind [] k = refl
lists_behind (list ∷ lists) k = sym (ap (λ (n : ℕ). get_or (lists_of (list ∷ lists)) n []) (add-one k))

pub order_behind : (lists : List (Vec (List ℕ) Global)) → AreInOrder lists → AreInOrder (remove lists 0)
order_behind [] order = order
order_behind (list ∷ lists) order = All-tail (λ (l : Vec (List ℕ) Global). IsInOrder l.items) list lists order

pub order_first : (lists : List (Vec (List ℕ) Global)) (d : Vec (List ℕ) Global) → 0 < length lists → AreInOrder lists → IsInOrder (slice_index_or lists 0 d).items
order_first [] d some order = absurd (omega (arith, some))
order_first (list ∷ lists) d some order = All-head (λ (l : Vec (List ℕ) Global). IsInOrder l.items) list lists order

pub if_err : {A E : Type 0} (P Q : E → Type 0) (r : Result A E) → ((e : E) → P e → Q e) → IfErr r P → IfErr r Q
if_err P Q (Ok x) more here = tt
if_err P Q (Err e) more here = more e here

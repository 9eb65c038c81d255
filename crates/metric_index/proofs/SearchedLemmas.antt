-- Names that a glob was held against.
use Rattle.std.proofs.Common.{◌≡◌, inl, inr, ◌⊎◌, ◌∙◌, ℕ, zero, suc, ◌≤◌, Less, Greater, List, [], ◌∷◌, ◌++◌, length, get_or, Contains, Some, refl, sym, ap, subst, arith}
use Rattle.std.specs.List.{All, AllByRecursion}
use Rattle.std.specs.List.Sorted.{IsStrictlySortedBy}
use Rattle.std.specs.Option.{IsSome}
use Rattle.std.specs.Ordering.{ordering_reverse}
use Rattle.std.proofs.lemmas.Cmp.{nat_list_cmp_total}
use Rattle.std.proofs.lemmas.List.Elements.{All-contains, All-contains_itself, All-head, All-push, All-tail, All-weaker}
use Rattle.std.proofs.lemmas.List.{map_push}
use Rattle.std.proofs.lemmas.Map.Keys.{sorted_tail}
use Rattle.std.proofs.lemmas.Map.Views.{All-after_first}
use Rattle.path_glob.specs.Faults.{Said}
use Rattle.path_glob.specs.Fronts.{IsRun}
use Rattle.path_glob.specs.Laws.{BeginsWith}
use Rattle.metric_index.specs.Found.{Finds, IsFitted}
use Rattle.metric_index.specs.Index.{entry_of, paths_of}
use Rattle.metric_index.specs.Searched.{AreHits, AreKnown, PicksNames, Sifts}
use Rattle.metric_index.proofs.FindLemmas.{known_of, of_known}
use Rattle.metric_index.proofs.IndexLemmas.{order}

-- ---- members

no_member : (p : List ℕ) → Contains [] p → ⊥
no_member p c = omega (arith, c.1)

first : (x : List ℕ) (xs : List (List ℕ)) → Contains (x ∷ xs) x
first x xs = (0, omega arith, refl)

behind_first : (x : List ℕ) (xs : List (List ℕ)) (p : List ℕ) → Contains xs p → Contains (x ∷ xs) p
behind_first x xs p c = (suc c.0, omega (arith, c.1), c.2)

first_or_behind : (x : List ℕ) (xs : List (List ℕ)) (p : List ℕ) → Contains (x ∷ xs) p → (x ≡ p) ⊎ Contains xs p
first_or_behind x xs p (zero, l, e) = inl e
first_or_behind x xs p (suc k, l, e) = inr (k, omega arith, e)

-- ---- picked names

module _ (fits : List ℕ → Type 0) where
  -- the next name fits, or not
  pub picks_more : (names picked : List (List ℕ)) (name : List ℕ) → PicksNames fits names picked → fits name → PicksNames fits (names ++ name ∷ []) (picked ++ name ∷ [])
  picks_more [] picked name is fit = inl (fit, [], ap (λ (l : List (List ℕ)). l ++ name ∷ []) is, refl)
  picks_more (n ∷ names) picked name (inl (fit', rest, is, picks)) fit =
      inl (fit', rest ++ name ∷ [], ap (λ (l : List (List ℕ)). l ++ name ∷ []) is, picks_more names rest name picks fit)
  picks_more (n ∷ names) picked name (inr (none, picks)) fit = inr (none, picks_more names picked name picks fit)

  pub picks_pass : (names picked : List (List ℕ)) (name : List ℕ) → PicksNames fits names picked → (fits name → ⊥) → PicksNames fits (names ++ name ∷ []) picked
  picks_pass [] picked name is no_fit = inr (no_fit, is)
  picks_pass (n ∷ names) picked name (inl (fit', rest, is, picks)) no_fit = inl (fit', rest, is, picks_pass names rest name picks no_fit)
  picks_pass (n ∷ names) picked name (inr (none, picks)) no_fit = inr (none, picks_pass names picked name picks no_fit)

  -- names that do not fit stand before and behind the others
  pass_before : (before names picked : List (List ℕ)) → All (λ name. fits name → ⊥) before → PicksNames fits names picked → PicksNames fits (before ++ names) picked
  pass_before [] names picked none picks = picks
  pass_before (n ∷ before) names picked none picks =
      inr (All-head (λ name. fits name → ⊥) n before none, pass_before before names picked (All-tail (λ name. fits name → ⊥) n before none) picks)

  pass_all : (names picked : List (List ℕ)) → All (λ name. fits name → ⊥) names → picked ≡ [] → PicksNames fits names picked
  pass_all [] picked none is = is
  pass_all (n ∷ names) picked none is = inr (All-head (λ name. fits name → ⊥) n names none, pass_all names picked (All-tail (λ name. fits name → ⊥) n names none) is)

  pass_behind : (names after picked : List (List ℕ)) → All (λ name. fits name → ⊥) after → PicksNames fits names picked → PicksNames fits (names ++ after) picked
  pass_behind [] after picked none is = pass_all after picked none is
  pass_behind (n ∷ names) after picked none (inl (fit, rest, is, picks)) = inl (fit, rest, is, pass_behind names after rest none picks)
  pass_behind (n ∷ names) after picked none (inr (no_fit, picks)) = inr (no_fit, pass_behind names after picked none picks)

  -- of names that begin with a front, which all have that fit, and all names the same are picked
  pub picks_run : (front : List ℕ) → ((path : List ℕ) → fits path → BeginsWith front path) → (names run picked : List (List ℕ)) → IsRun front names run → PicksNames fits run picked → PicksNames fits names picked
  picks_run front begins names run picked (before, after, is, ahead, behind) picks =
      let none : (xs : List (List ℕ)) → All (λ name. BeginsWith front name → ⊥) xs → All (λ name. fits name → ⊥) xs =
      All-weaker (λ name. BeginsWith front name → ⊥) (λ name. fits name → ⊥) (λ name no_front fit. no_front (begins name fit)) in
      subst (λ (l : List (List ℕ)). PicksNames fits l picked) (sym is) (pass_before before (run ++ after) picked (none before ahead) (pass_behind run after picked (none after behind) picks))

  picked_below : (P : List ℕ → Type 0) (names picked : List (List ℕ)) → PicksNames fits names picked → AllByRecursion P names → AllByRecursion P picked
  picked_below P [] picked is below = subst (AllByRecursion P) (sym is) tt
  picked_below P (n ∷ names) picked (inl (fit, rest, is, picks)) below = subst (AllByRecursion P) (sym is) (below.0, picked_below P names rest picks below.1)
  picked_below P (n ∷ names) picked (inr (none, picks)) below = picked_below P names picked picks below.1

  picked_rising : (names picked : List (List ℕ)) → PicksNames fits names picked → IsStrictlySortedBy order names → IsStrictlySortedBy order picked
  unfolding IsStrictlySortedBy
  picked_rising [] picked is rising = subst (IsStrictlySortedBy order) (sym is) tt
  picked_rising (n ∷ names) picked (inl (fit, rest, is, picks)) rising =
      subst (IsStrictlySortedBy order) (sym is) (picked_below (λ path. order n path ≡ Less) names rest picks rising.0, picked_rising names rest picks rising.1)
  picked_rising (n ∷ names) picked (inr (none, picks)) rising = picked_rising names picked picks rising.1

  picked_fits : (names picked : List (List ℕ)) (p : List ℕ) → PicksNames fits names picked → Contains picked p → fits p × Contains names p
  picked_fits [] picked p is c = absurd (no_member p (subst (λ (l : List (List ℕ)). Contains l p) is c))
  picked_fits (n ∷ names) picked p (inl (fit, rest, is, picks)) c = elim (first_or_behind n rest p (subst (λ (l : List (List ℕ)). Contains l p) is c)) [
    | inl same ↦ (subst fits same fit, subst (λ (q : List ℕ). Contains (n ∷ names) q) same (first n names))
    | inr behind ↦ let both = picked_fits names rest p picks behind in (both.0, behind_first n names p both.1)
  ]
  picked_fits (n ∷ names) picked p (inr (none, picks)) c = let both = picked_fits names picked p picks c in (both.0, behind_first n names p both.1)

  fits_picked : (names picked : List (List ℕ)) (p : List ℕ) → PicksNames fits names picked → fits p → Contains names p → Contains picked p
  fits_picked [] picked p is fit c = absurd (no_member p c)
  fits_picked (n ∷ names) picked p (inl (fit', rest, is, picks)) fit c = subst (λ (l : List (List ℕ)). Contains l p) (sym is) (elim (first_or_behind n names p c) [
    | inl same ↦ subst (λ (q : List ℕ). Contains (n ∷ rest) q) same (first n rest)
    | inr behind ↦ behind_first n rest p (fits_picked names rest p picks fit behind)
  ])
  fits_picked (n ∷ names) picked p (inr (none, picks)) fit c = elim (first_or_behind n names p c) [
    | inl same ↦ absurd (none (subst fits (sym same) fit))
    | inr behind ↦ fits_picked names picked p picks fit behind
  ]

pub sifts : (glob : Said) (names picked : List (List ℕ)) → IsStrictlySortedBy order names → PicksNames (IsFitted glob) names picked → Sifts glob names picked
sifts glob names picked rising picks = record {
  rising = rising;
  in_order = picked_rising (IsFitted glob) names picked picks rising;
  found = λ path. (picked_fits (IsFitted glob) names picked path picks, λ both. fits_picked (IsFitted glob) names picked path picks both.0 both.1);
}

pub sifts_none : (glob : Said) (picked : List (List ℕ)) → picked ≡ [] → Sifts glob [] picked
unfolding IsStrictlySortedBy
sifts_none glob picked none = sifts glob [] picked tt none

-- ---- as many names as there are, in byte order, are all

less_is_greater : Less ≡ Greater → ⊥
less_is_greater e = cc e

one_way : (x y : List ℕ) → order x y ≡ Less → order y x ≡ Less → ⊥
one_way x y there back = less_is_greater (sym there ∙ nat_list_cmp_total.antisymm x y ∙ ap ordering_reverse back)

not_below_itself : (x y : List ℕ) → order x y ≡ Less → x ≡ y → ⊥
not_below_itself x y below same = one_way x x (subst (λ (p : List ℕ). order x p ≡ Less) (sym same) below) (subst (λ (p : List ℕ). order x p ≡ Less) (sym same) below)

below_those_behind : (x : List ℕ) (xs : List (List ℕ)) (p : List ℕ) → IsStrictlySortedBy order (x ∷ xs) → Contains xs p → order x p ≡ Less
below_those_behind x xs p sorted c = All-contains (λ (y : List ℕ). order x y ≡ Less) xs p (All-after_first order x xs sorted) c

-- what is behind the first ones, where these are one
also_behind : (x : List ℕ) (xs : List (List ℕ)) (y : List ℕ) (ys : List (List ℕ)) (p : List ℕ) → IsStrictlySortedBy order (x ∷ xs) → y ≡ x
    → (Contains (x ∷ xs) p → Contains (y ∷ ys) p) → Contains xs p → Contains ys p
also_behind x xs y ys p sorted same also c = elim (first_or_behind y ys p (also (behind_first x xs p c))) [
  | inl here ↦ absurd (not_below_itself x p (below_those_behind x xs p sorted c) (sym same ∙ here))
  | inr behind ↦ behind
]

-- all are behind the first one of the others, where their own first is
all_behind : (x : List ℕ) (xs : List (List ℕ)) (y : List ℕ) (ys : List (List ℕ)) (p : List ℕ) → IsStrictlySortedBy order (x ∷ xs) → order y x ≡ Less
    → (Contains (x ∷ xs) p → Contains (y ∷ ys) p) → Contains (x ∷ xs) p → Contains ys p
all_behind x xs y ys p sorted below also c = elim (first_or_behind y ys p (also c)) [
  | inl here ↦ absurd (elim (first_or_behind x xs p c) [
    | inl same ↦ not_below_itself y x below (here ∙ sym same)
    | inr later ↦ one_way y x below (subst (λ (q : List ℕ). order x q ≡ Less) (sym here) (below_those_behind x xs p sorted later))
  ])
  | inr behind ↦ behind
]

none_left : (ys : List (List ℕ)) → 0 ≡ length ys → [] ≡ ys
none_left [] none = refl
none_left (y ∷ ys) none = absurd (omega (arith, none))

-- members of a list are no more than it has, and as many only where they are all
record Within (xs ys : List (List ℕ)) : Type 0 where
  few : length xs ≤ length ys
  all : length xs ≡ length ys → xs ≡ ys

within : (xs ys : List (List ℕ)) → IsStrictlySortedBy order xs → IsStrictlySortedBy order ys → ((p : List ℕ) → Contains xs p → Contains ys p) → Within xs ys
within [] ys sorted_x sorted_y also = record { few = omega arith; all = none_left ys }
within (x ∷ xs) [] sorted_x sorted_y also = absurd (no_member x (also x (first x xs)))
within (x ∷ xs) (y ∷ ys) sorted_x sorted_y also = elim (first_or_behind y ys x (also x (first x xs))) [
  | inl same ↦
      let others = within xs ys (sorted_tail order x xs sorted_x) (sorted_tail order y ys sorted_y) (λ p. also_behind x xs y ys p sorted_x same (also p)) in record {
        few = omega (arith, others.few);
        all = λ many. ap (λ (ps : List (List ℕ)). x ∷ ps) (others.all (omega (arith, many))) ∙ ap (λ (p : List ℕ). p ∷ ys) (sym same);
      }
  | inr behind ↦
      let below = below_those_behind y ys x sorted_y behind in
      let others = within (x ∷ xs) ys sorted_x (sorted_tail order y ys sorted_y) (λ p. all_behind x xs y ys p sorted_x below (also p)) in record {
        few = omega (arith, others.few);
        all = λ many. absurd (omega (arith, others.few, many));
      }
]

paths_count : {V : Type 0} (es : List (List ℕ × V)) → length (paths_of es) ≡ length es
paths_count [] = refl
paths_count (e ∷ es) = ap suc (paths_count es)

pub known_all : {V : Type 0} (es : List (List ℕ × V)) (names : List (List ℕ)) → IsStrictlySortedBy order names → IsStrictlySortedBy order (paths_of es) → AreKnown es names → length es ≡ length names → names ≡ paths_of es
known_all es names rising rising' known many =
    (within names (paths_of es) rising rising' (λ p c. of_known es p (All-contains (λ (name : List ℕ). IsSome (entry_of es name)) names p known c))).all (sym many ∙ sym (paths_count es))

-- the hits of those that fit are all that a search finds
pub finds_again : {V : Type 0} (glob : Said) (es hits : List (List ℕ × V)) (names picked : List (List ℕ)) → IsStrictlySortedBy order (paths_of es) → AreKnown es names → length es ≡ length names
    → Sifts glob names picked → AreHits es picked hits → Finds es (IsFitted glob) hits
finds_again {V} glob es hits names picked rising known many sifted are =
    let same : names ≡ paths_of es = known_all es names sifted.rising rising known many in record {
      in_order = subst (IsStrictlySortedBy order) (sym are.same) sifted.in_order;
      found = λ path. (
        λ there. let both = (sifted.found path).0 (subst (λ (l : List (List ℕ)). Contains l path) are.same there) in
            (both.0, known_of es path (subst (λ (l : List (List ℕ)). Contains l path) same both.1)),
        λ both. subst (λ (l : List (List ℕ)). Contains l path) (sym are.same)
            ((sifted.found path).1 (both.0, subst (λ (l : List (List ℕ)). Contains l path) (sym same) (of_known es path both.1))),
      );
      entries = are.entries;
    }

-- one hit more
pub hits_more : {V : Type 0} (es hits : List (List ℕ × V)) (picked : List (List ℕ)) (p : List ℕ) (entry : V) → AreHits es picked hits → entry_of es p ≡ Some entry
    → AreHits es (picked ++ p ∷ []) (hits ++ (p, entry) ∷ [])
hits_more {V} es hits picked p entry are is = record {
  same = map_push (λ (hit : List ℕ × V). hit.0) hits (p, entry) ∙ ap (λ (l : List (List ℕ)). l ++ p ∷ []) are.same;
  entries = All-push (λ (hit : List ℕ × V). entry_of es hit.0 ≡ Some hit.1) hits (p, entry) are.entries is;
}

-- all those that fit are known
pub picked_known : {V : Type 0} (glob : Said) (es : List (List ℕ × V)) (names picked : List (List ℕ)) → AreKnown es names → Sifts glob names picked → AreKnown es picked
picked_known {V} glob es names picked known sifted = λ k d less.
    let p : List ℕ = get_or picked k d in
    All-contains (λ (name : List ℕ). IsSome (entry_of es name)) names p known ((sifted.found p).0 (All-contains_itself picked k d less)).1

-- Names in byte order that begin with the same bytes.
use Rattle.std.proofs.Common.{Ordering, Less, Equal, Greater, ◌≡◌, ◌≢◌, ℕ, zero, suc, ◌+◌, ◌<◌, ◌≤◌, ◌⊎◌, inl, inr, ⊎_elim, Bool, true, false, List, [], ◌∷◌, ◌++◌, length, take, drop, get_or, All, refl, sym, ap, ◌∙◌, subst, arith, eqb, length-drop}
use Rattle.std.specs.Cmp.{unsigned_Decides}
use Rattle.std.specs.Cmp.Lexicographic.{slice_cmp}
use Rattle.std.specs.List.{AllByRecursion, AllWithin, starts_with}
use Rattle.std.specs.List.Sorted.{IsPartitionedBy, IsStrictlySortedBy}
use Rattle.std.specs.Ordering.{is_lt, nat_cmp, ordering_reverse}
use Rattle.std.proofs.lemmas.Cmp.{nat_list_cmp_total}
use Rattle.std.proofs.lemmas.Bool.{cases_lt}
use Rattle.std.proofs.lemmas.List.Elements.{All-from_recursion}
use Rattle.std.proofs.lemmas.List.{get_or-drop, get_or-take, length-take-le, take-append-drop}
use Rattle.std.proofs.lemmas.Slice.Eq.{starts_is}
use Rattle.std.proofs.lemmas.Map.Keys.{Less-from_sorted, sorted_head, sorted_tail}
use Rattle.path_glob.specs.Laws.{BeginsWith}
use Rattle.path_glob.specs.Fronts.{IsBehindRun, IsRun}

-- the order of bytes
abbrev pub order : List ℕ → List ℕ → Ordering
order = slice_cmp nat_cmp

-- what is not at all below is no Less
pub lt_is : (o : Ordering) → is_lt o ≡ true → o ≡ Less
lt_is Less e = refl
lt_is Equal e = absurd cc
lt_is Greater e = absurd cc

pub not_lt : (o : Ordering) → is_lt o ≡ false → o ≢ Less
not_lt o e below = absurd (let f = sym e ∙ ap is_lt below in cc)

-- names in order rise
above : (names : List (List ℕ)) (i j : ℕ) (d : List ℕ) → IsStrictlySortedBy order names → i ≤ j → j < length names → (get_or names i d ≡ get_or names j d) ⊎ (order (get_or names i d) (get_or names j d) ≡ Less)
above names i j d rising le within = ⊎_elim (λ lt. inr (Less-from_sorted order names i j d rising lt within)) (λ ge. inl (ap (λ (k : ℕ). get_or names k d) (omega (arith, le, ge)))) (cases_lt i j)

below_by : (front first last : List ℕ) → (first ≡ last) ⊎ (order first last ≡ Less) → is_lt (order last front) ≡ true → is_lt (order first front) ≡ true
below_by front first last (inl same) below = ap (λ (l : List ℕ). is_lt (order l front)) same ∙ below
below_by front first last (inr less) below = ap is_lt (nat_list_cmp_total.trans first last front less (lt_is _ below))

-- those below a text come first
pub below_first : (names : List (List ℕ)) (front : List ℕ) → IsStrictlySortedBy order names → IsPartitionedBy (λ name. is_lt (order name front)) names
below_first names front rising i j d le within below =
    below_by front (get_or names i d) (get_or names j d) (above names i j d rising le within) below

-- what the law of fronts says
abbrev pub Apart : List ℕ → Type 0
Apart front = (text later : List ℕ) → order text front ≢ Less → (BeginsWith front text → ⊥) → order later text ≢ Less → BeginsWith front later → ⊥

abbrev pub begins : List ℕ → List ℕ → Bool
begins front name = starts_with eqb name front

pub begins_is : (front name : List ℕ) → begins front name ≡ true → BeginsWith front name
begins_is front name so = let is = starts_is unsigned_Decides name front (begins front name) refl in (drop (length front) name, is.0 so)

pub begins_not : (front name : List ℕ) → begins front name ≡ false → BeginsWith front name → ⊥
begins_not front name no_ it = let is = starts_is unsigned_Decides name front (begins front name) refl in absurd (let e = sym no_ ∙ is.1 it.0 it.1 in cc)

pub begins_yes : (front name : List ℕ) → BeginsWith front name → begins front name ≡ true
begins_yes front name it = (starts_is unsigned_Decides name front (begins front name) refl).1 it.0 it.1

not_less : (first last : List ℕ) → order first last ≡ Less → order last first ≢ Less
not_less first last less below = absurd (let e = sym below ∙ nat_list_cmp_total.antisymm last first ∙ ap ordering_reverse less in cc)

begins_by : (front first last : List ℕ) (test : Bool) → begins front first ≡ test → Apart front → order first front ≢ Less → (first ≡ last) ⊎ (order first last ≡ Less) → begins front last ≡ true → test ≡ true
begins_by front first last true is apart from rises so = refl
begins_by front first last false is apart from (inl same) so = sym is ∙ ap (begins front) same ∙ so
begins_by front first last false is apart from (inr less) so =
    absurd (apart first last from (begins_not front first is) (not_less first last less) (begins_is front last so))

-- those that begin with a text come first, where none is below it
pub run_first : (names : List (List ℕ)) (front : List ℕ) → Apart front → IsStrictlySortedBy order names → All (λ name. order name front ≢ Less) names → IsPartitionedBy (begins front) names
run_first names front apart rising from i j d le within so =
    begins_by front (get_or names i d) (get_or names j d) (begins front (get_or names i d)) refl apart (from i d (omega (arith, le, within))) (above names i j d rising le within) so

-- ---- what stands before and behind a place

pub all_before : {X : Type 0} (P Q : X → Type 0) → ((x : X) → P x → Q x) → (xs : List X) (i : ℕ) → i ≤ length xs → AllWithin P xs 0 i → All Q (take i xs)
all_before P Q weaker xs i within all k d below =
    let short : k < i = omega (arith, below, length-take-le i xs within) in
    subst Q (sym (get_or-take i xs k d short)) (weaker (get_or xs k d) (all k d (omega arith) short))

pub all_behind : {X : Type 0} (P Q : X → Type 0) → ((x : X) → P x → Q x) → (xs : List X) (i : ℕ) → i ≤ length xs → AllWithin P xs i (length xs) → All Q (drop i xs)
all_behind P Q weaker xs i within all k d below =
    subst Q (sym (get_or-drop i xs k d)) (weaker (get_or xs (i + k) d) (all (i + k) d (omega arith) (omega (arith, below, length-drop i xs))))

-- ---- parts of names in order

pub rising_drop : (n : ℕ) (names : List (List ℕ)) → IsStrictlySortedBy order names → IsStrictlySortedBy order (drop n names)
rising_drop zero names rising = rising
rising_drop (suc n) [] rising = rising
rising_drop (suc n) (name ∷ names) rising = rising_drop n names (sorted_tail order name names rising)

above_take : (n : ℕ) (P : List ℕ → Type 0) (names : List (List ℕ)) → AllByRecursion P names → AllByRecursion P (take n names)
above_take zero P names all = tt
above_take (suc n) P [] all = tt
above_take (suc n) P (name ∷ names) all = (all.0, above_take n P names all.1)

pub rising_take : (n : ℕ) (names : List (List ℕ)) → IsStrictlySortedBy order names → IsStrictlySortedBy order (take n names)
unfolding IsStrictlySortedBy
rising_take zero names rising = tt
rising_take (suc n) [] rising = tt
rising_take (suc n) (name ∷ names) rising = (above_take n (λ x. order name x ≡ Less) names rising.0, rising_take n names rising.1)

-- the run of a text among all names
pub run_from_parts : (front : List ℕ) (names : List (List ℕ)) (k m : ℕ) → ((rest : List ℕ) → order (front ++ rest) front ≢ Less) → All (λ name. order name front ≡ Less) (take k names)
    → All (λ name. BeginsWith front name → ⊥) (drop m (drop k names)) → IsRun front names (take m (drop k names))
run_from_parts front names k m from below behind = (
  take k names,
  drop m (drop k names),
  sym (ap (λ (l : List (List ℕ)). take k names ++ l) (take-append-drop m (drop k names)) ∙ take-append-drop k names),
  (λ i d within it. from it.0 (sym (ap (λ (l : List ℕ). order l front) it.1) ∙ below i d within)),
  behind,
)

pub behind_from_parts : (front : List ℕ) (names : List (List ℕ)) (m : ℕ) → All (BeginsWith front) (take m names) → IsBehindRun front names (drop m names)
behind_from_parts front names m run = (take m names, sym (take-append-drop m names), run)

-- names behind one that begins with a text are not below the text
later_by : (front name : List ℕ) (others : List (List ℕ)) → order name front ≢ Less → AllByRecursion (λ x. order name x ≡ Less) others → AllByRecursion (λ x. order x front ≢ Less) others
later_by front name [] from above = tt
later_by front name (x ∷ others) from above =
    ((λ below. from (nat_list_cmp_total.trans name x front above.0 below)), later_by front name others from above.1)

pub later_from : (front name : List ℕ) (others : List (List ℕ)) → order name front ≢ Less → IsStrictlySortedBy order (name ∷ others) → All (λ x. order x front ≢ Less) others
later_from front name others from rising = All-from_recursion (λ x. order x front ≢ Less) others (later_by front name others from (sorted_head order name others rising))

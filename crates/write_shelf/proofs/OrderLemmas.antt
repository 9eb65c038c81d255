-- Places in rising archive and slot, and those from one on.
use Rattle.std.proofs.Common.{◌≡◌, ◌∙◌, ℕ, ℤ, ◌+◌, Bool, true, false, cond, ◌&&◌, ◌==◌, List, [], ◌∷◌, Option, Some, None, IsSome, is_some, inl, inr, refl, sym, ap, ap₂, subst, arith, All, nat_cmp, is_eq, is_lt, is_le, Ordering, Less, Equal, Greater}
use Rattle.std.specs.BTreeMap.{is_at}
use Rattle.std.specs.Cmp.{IsTotalOrder, tied_then, unsigned_tied}
use Rattle.std.specs.List.{AllByRecursion}
use Rattle.std.specs.List.Sorted.{IsStrictlySortedBy}
use Rattle.std.specs.Map.{keys_of}
use Rattle.std.specs.Ordering.{ordering_reverse, ordering_then}
use Rattle.std.proofs.lemmas.Bool.{cases_Bool, cond-true, cond-false, true≢false}
use Rattle.std.proofs.lemmas.Bool.Decides.{nat_tests}
use Rattle.std.proofs.lemmas.Cmp.{nat_cmp_total, on_total, then_total, tied_itself}
use Rattle.std.proofs.lemmas.List.Elements.{All-head, All-tail}
use Rattle.std.proofs.lemmas.Map.{NonePasses, lookup-none, none_passes_from_lookup}
use Rattle.std.proofs.lemmas.Map.Entries.{none_below_head}
use Rattle.std.proofs.lemmas.Map.Keys.{sorted_head, sorted_tail}
use Rattle.std.proofs.lemmas.Map.Lookups.{exact_pairs, exact_unsigned}
use Rattle.ring_format.specs.Patch.{Cells as Laid, cell_at, first_cell_from, place_cmp}
use Rattle.write_shelf.specs.Behind.{places_from}

pub place_total : IsTotalOrder place_cmp
place_total = then_total (on_total (λ (p : ℕ × ℕ). p.0) nat_cmp_total) (on_total (λ (p : ℕ × ℕ). p.1) nat_cmp_total)

same_place : (p q : ℕ × ℕ) → place_cmp p q ≡ Equal → p ≡ q
same_place = exact_pairs nat_cmp nat_cmp exact_unsigned exact_unsigned

-- the next slot of the same archive
abbrev pub next_slot : ℕ × ℕ → ℕ × ℕ
next_slot p = (p.0, p.1 + 1)

then_behind : (o x y : Ordering) → is_le x ≡ is_lt y → is_le (ordering_then o x) ≡ is_lt (ordering_then o y)
then_behind Less x y h = refl
then_behind Equal x y h = h
then_behind Greater x y h = refl

slot_behind : (s t : ℕ) → is_le (nat_cmp (s + 1) t) ≡ is_lt (nat_cmp s t)
slot_behind s t = grind (arith, nat_tests)

-- a place is at the next slot or behind it where it is behind the slot
behind_next : (p q : ℕ × ℕ) → is_le (place_cmp (next_slot p) q) ≡ is_lt (place_cmp p q)
behind_next p q = then_behind (nat_cmp p.0 q.0) (nat_cmp (p.1 + 1) q.1) (nat_cmp p.1 q.1) (slot_behind p.1 q.1)

-- ---- places from one on

skipped : (x p : ℕ × ℕ) (xs : List (ℕ × ℕ)) → is_le (place_cmp p x) ≡ false → places_from (x ∷ xs) p ≡ places_from xs p
skipped x p xs e = cond-false _ _ _ e

kept : (x p : ℕ × ℕ) (xs : List (ℕ × ℕ)) → is_le (place_cmp p x) ≡ true → places_from (x ∷ xs) p ≡ x ∷ xs
kept x p xs e = cond-true _ _ _ e

zero_by : (o x : Ordering) → is_le o ≡ true → is_le x ≡ true → is_le (ordering_then o x) ≡ true
zero_by Less x h k = refl
zero_by Equal x h k = k
zero_by Greater x h k = absurd cc

zero_slot : (n : ℕ) → is_le (nat_cmp 0 n) ≡ true
zero_slot n = grind (arith, nat_tests)

-- from the first place on all are
pub from_first : (xs : List (ℕ × ℕ)) → places_from xs (0, 0) ≡ xs
from_first [] = refl
from_first (x ∷ xs) = kept x (0, 0) xs (zero_by (nat_cmp 0 x.0) (nat_cmp 0 x.1) (zero_slot x.0) (zero_slot x.1))

-- behind the first of places that rise the others are
from_second : (x : ℕ × ℕ) (xs : List (ℕ × ℕ)) → IsStrictlySortedBy place_cmp (x ∷ xs) → places_from xs (next_slot x) ≡ xs
from_second x [] sorted = refl
from_second x (y ∷ ys) sorted = kept y (next_slot x) ys (behind_next x y ∙ ap is_lt (sorted_head place_cmp x (y ∷ ys) sorted).0)

from_itself : (x : ℕ × ℕ) (xs : List (ℕ × ℕ)) → IsStrictlySortedBy place_cmp (x ∷ xs) → x ∷ xs ≡ x ∷ places_from (x ∷ xs) (next_slot x)
from_itself x xs sorted =
    let past : is_le (place_cmp (next_slot x) x) ≡ false = behind_next x x ∙ ap is_lt (tied_itself place_total x) in
    ap (λ (ys : List (ℕ × ℕ)). x ∷ ys) (sym (skipped x (next_slot x) xs past ∙ from_second x xs sorted))

-- ---- cells at places

is_equal : (o : Ordering) → is_eq o ≡ true → o ≡ Equal
is_equal Less e = absurd cc
is_equal Equal e = refl
is_equal Greater e = absurd cc

-- the place of a cell that was found, and of a cell that is laid
pub found_holds : (P : ℕ × ℕ → Type 0) (cells : Laid) (from : ℕ × ℕ) (cell : (ℕ × ℕ) × (ℕ × ℤ)) → AllByRecursion P (keys_of cells) → first_cell_from cells from ≡ Some cell → P cell.0
found_holds P [] from cell all e = absurd cc
found_holds P (x ∷ cells) from cell all e = elim (cases_Bool (is_le (place_cmp from x.0))) [
  | inl hit ↦
      let same : Some x ≡ Some cell = sym (cond-true _ _ _ hit) ∙ e in
      let is : x ≡ cell = cc in
      subst (λ (y : (ℕ × ℕ) × (ℕ × ℤ)). P y.0) is all.0
  | inr past ↦ found_holds P cells from cell all.1 (sym (cond-false _ _ _ past) ∙ e)
]

pub laid_holds : (P : ℕ × ℕ → Type 0) (cells : Laid) (place : ℕ × ℕ) → All P (keys_of cells) → IsSome (cell_at cells place) → P place
laid_holds P [] place all e = absurd cc
laid_holds P (x ∷ cells) place all e = elim (cases_Bool (is_at (place_cmp place) x.0)) [
  | inl hit ↦ subst P (sym (same_place place x.0 (is_equal (place_cmp place x.0) hit))) (All-head P x.0 (keys_of cells) all)
  | inr other ↦ laid_holds P cells place (All-tail P x.0 (keys_of cells) all) (ap is_some (sym (cond-false _ (Some x.1) (cell_at cells place) other)) ∙ e)
]

some_behind : (b : Bool) (cell : ℕ × ℤ) (others : Option (ℕ × ℤ)) → IsSome others → IsSome (cond b (Some cell) others)
some_behind true cell others some = refl
some_behind false cell others some = some

-- the cell that is found first at a place or behind it is laid, and it is the first of the places from there on
pub found_laid : (cells : Laid) (from : ℕ × ℕ) (cell : (ℕ × ℕ) × (ℕ × ℤ)) → first_cell_from cells from ≡ Some cell → IsSome (cell_at cells cell.0)
found_laid [] from cell e = absurd cc
found_laid (x ∷ cells) from cell e = elim (cases_Bool (is_le (place_cmp from x.0))) [
  | inl hit ↦
      let same : Some x ≡ Some cell = sym (cond-true _ _ _ hit) ∙ e in
      let is : x ≡ cell = cc in
      let here : is_at (place_cmp x.0) x.0 ≡ true = ap is_eq (tied_itself place_total x.0) in
      subst (λ (y : (ℕ × ℕ) × (ℕ × ℤ)). IsSome (cell_at (x ∷ cells) y.0)) is (ap is_some (cond-true _ (Some x.1) (cell_at cells x.0) here))
  | inr past ↦
      some_behind (is_at (place_cmp cell.0) x.0) x.1 (cell_at cells cell.0) (found_laid cells from cell (sym (cond-false _ _ _ past) ∙ e))
]

pub found_first : (cells : Laid) (from : ℕ × ℕ) (cell : (ℕ × ℕ) × (ℕ × ℤ)) → IsStrictlySortedBy place_cmp (keys_of cells) → first_cell_from cells from ≡ Some cell
    → places_from (keys_of cells) from ≡ cell.0 ∷ places_from (keys_of cells) (next_slot cell.0)
found_first [] from cell sorted e = absurd cc
found_first (x ∷ cells) from cell sorted e = elim (cases_Bool (is_le (place_cmp from x.0))) [
  | inl hit ↦
      let same : Some x ≡ Some cell = sym (cond-true _ _ _ hit) ∙ e in
      let is : x ≡ cell = cc in
      kept x.0 from (keys_of cells) hit
      ∙ subst (λ (y : (ℕ × ℕ) × (ℕ × ℤ)). x.0 ∷ keys_of cells ≡ y.0 ∷ places_from (x.0 ∷ keys_of cells) (next_slot y.0)) is (from_itself x.0 (keys_of cells) sorted)
  | inr past ↦
      let found : first_cell_from cells from ≡ Some cell = sym (cond-false _ _ _ past) ∙ e in
      let above : place_cmp x.0 cell.0 ≡ Less = found_holds (λ (y : ℕ × ℕ). place_cmp x.0 y ≡ Less) cells from cell (sorted_head place_cmp x.0 (keys_of cells) sorted) found in
      let below : is_le (place_cmp (next_slot cell.0) x.0) ≡ false = behind_next cell.0 x.0 ∙ ap is_lt (place_total.antisymm cell.0 x.0 ∙ ap ordering_reverse above) in
      skipped x.0 from (keys_of cells) past ∙ found_first cells from cell (sorted_tail place_cmp x.0 (keys_of cells) sorted) found
      ∙ ap (λ (ys : List (ℕ × ℕ)). cell.0 ∷ ys) (sym (skipped x.0 (next_slot cell.0) (keys_of cells) below))
]

-- a place that is laid is the first of the places from it on
laid_by : (o : Ordering) (x : (ℕ × ℕ) × (ℕ × ℤ)) (cells : Laid) (place : ℕ × ℕ) → place_cmp place x.0 ≡ o → IsStrictlySortedBy place_cmp (keys_of (x ∷ cells)) → IsSome (cell_at (x ∷ cells) place)
    → (IsSome (cell_at cells place) → places_from (keys_of cells) place ≡ place ∷ places_from (keys_of cells) (next_slot place))
    → places_from (keys_of (x ∷ cells)) place ≡ place ∷ places_from (keys_of (x ∷ cells)) (next_slot place)
laid_by Less x cells place is sorted laid later =
    let none : cell_at (x ∷ cells) place ≡ None = lookup-none (is_at (place_cmp place)) (x ∷ cells) (none_below_head place_total place x cells sorted is) in
    absurd (true≢false (sym laid ∙ ap is_some none))
laid_by Equal x cells place is sorted laid later =
    let here : place ≡ x.0 = same_place place x.0 is in
    kept x.0 place (keys_of cells) (ap is_le is)
    ∙ subst (λ (p : ℕ × ℕ). x.0 ∷ keys_of cells ≡ p ∷ places_from (x.0 ∷ keys_of cells) (next_slot p)) (sym here) (from_itself x.0 (keys_of cells) sorted)
laid_by Greater x cells place is sorted laid later =
    let behind : is_le (place_cmp (next_slot place) x.0) ≡ false = behind_next place x.0 ∙ ap is_lt is in
    let other : cell_at (x ∷ cells) place ≡ cell_at cells place = cond-false _ _ _ (ap is_eq is) in
    skipped x.0 place (keys_of cells) (ap is_le is) ∙ later (ap is_some (sym other) ∙ laid)
    ∙ ap (λ (ys : List (ℕ × ℕ)). place ∷ ys) (sym (skipped x.0 (next_slot place) (keys_of cells) behind))

pub laid_first : (cells : Laid) (place : ℕ × ℕ) → IsStrictlySortedBy place_cmp (keys_of cells) → IsSome (cell_at cells place)
    → places_from (keys_of cells) place ≡ place ∷ places_from (keys_of cells) (next_slot place)
laid_first [] place sorted laid = absurd cc
laid_first (x ∷ cells) place sorted laid = laid_by (place_cmp place x.0) x cells place refl sorted laid (laid_first cells place (sorted_tail place_cmp x.0 (keys_of cells) sorted))

-- a place that is not laid is none of the places from it on
none_keys : (test : ℕ × ℕ → Bool) (cells : Laid) → NonePasses test cells → AllByRecursion (λ place. test place ≡ false) (keys_of cells)
none_keys test [] none = tt
none_keys test (x ∷ cells) none = (none.0, none_keys test cells none.1)

none_from : (P : ℕ × ℕ → Type 0) (places : List (ℕ × ℕ)) (from : ℕ × ℕ) → AllByRecursion P places → AllByRecursion P (places_from places from)
none_from P [] from all = tt
none_from P (x ∷ places) from all = elim (cases_Bool (is_le (place_cmp from x))) [
  | inl hit ↦ subst (AllByRecursion P) (sym (kept x from places hit)) all
  | inr past ↦ subst (AllByRecursion P) (sym (skipped x from places past)) (none_from P places from all.1)
]

parts_at : (p q : ℕ × ℕ) → (p.0 == q.0 && p.1 == q.1) ≡ is_at (place_cmp p) q
parts_at p q = ap₂ (λ (a b : Bool). a && b) (sym (unsigned_tied p.0 q.0)) (sym (unsigned_tied p.1 q.1)) ∙ tied_then (nat_cmp p.0 q.0) (nat_cmp p.1 q.1)

by_parts : (place : ℕ × ℕ) (places : List (ℕ × ℕ)) → AllByRecursion (λ other. is_at (place_cmp place) other ≡ false) places → AllByRecursion (λ other. (place.0 == other.0 && place.1 == other.1) ≡ false) places
by_parts place [] none = tt
by_parts place (x ∷ places) none = (parts_at place x ∙ none.0, by_parts place places none.1)

pub unlaid_none : (cells : Laid) (place : ℕ × ℕ) → cell_at cells place ≡ None → AllByRecursion (λ other. (place.0 == other.0 && place.1 == other.1) ≡ false) (places_from (keys_of cells) place)
unlaid_none cells place none =
    none_from (λ (other : ℕ × ℕ). (place.0 == other.0 && place.1 == other.1) ≡ false) (keys_of cells) place
    (by_parts place (keys_of cells) (none_keys (is_at (place_cmp place)) cells (none_passes_from_lookup (is_at (place_cmp place)) cells none)))

-- where no cell is found from a place on, there are no places from it on
pub none_found : (cells : Laid) (from : ℕ × ℕ) → first_cell_from cells from ≡ None → places_from (keys_of cells) from ≡ []
none_found [] from e = refl
none_found (x ∷ cells) from e = elim (cases_Bool (is_le (place_cmp from x.0))) [
  | inl hit ↦
      let some : Some x ≡ None = sym (cond-true _ _ _ hit) ∙ e in
      absurd cc
  | inr past ↦ skipped x.0 from (keys_of cells) past ∙ none_found cells from (sym (cond-false _ _ _ past) ∙ e)
]

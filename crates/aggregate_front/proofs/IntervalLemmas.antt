-- Where a point goes among open intervals that rise.
use Rattle.std.proofs.Common.{◌≡◌, ◌≢◌, ◌∙◌, inl, inr, ℕ, zero, suc, ◌+◌, ◌-◌, ◌<◌, ◌≤◌, ◌==◌, nat_lt, nat_le, Bool, true, false, true≢false, None, if◌then◌else◌, List, [], ◌∷◌, ◌++◌, filter, get_or, length, slice_set, take, insert, remove, refl, sym, ap, subst, arith}
use Rattle.std.proofs.lemmas.Bool.{le-ltb, lt-ltb, le-leb, lt-leb, cases_order}
use Rattle.std.proofs.lemmas.Bool.Decides.{eqb_tells}
use Rattle.std.proofs.lemmas.List.{length_push, take_all, take-append-le}
use Rattle.std.proofs.lemmas.List.Sums.{sum_by-cons}
use Rattle.std.specs.List.{AllByRecursion, find, position_or_len, sum_by}
use Rattle.std.specs.Option.{option_map_or}
use Rattle.aggregate_front.specs.declared.timed_value.TimedValue.{TimedValue}
use Rattle.aggregate_front.specs.declared.interval.Interval.{Interval}
use Rattle.aggregate_front.specs.Intervals.{RisesAfter, is_open, is_start_at, joined, parted, with_point}

eqb-other : (a b : ℕ) → a ≢ b → (a == b) ≡ false
eqb-other a b ne = elim (eqb_tells a b) [ inl s ↦ absurd (ne s.1) | inr o ↦ o.0 ]

eqb-same : (a b : ℕ) → a ≡ b → (a == b) ≡ true
eqb-same a b e = elim (eqb_tells a b) [ inl s ↦ s.0 | inr o ↦ absurd (o.1 e) ]

-- the place of an interval among open ones
abbrev pub place_for : List Interval → ℕ → ℕ
place_for held start = position_or_len (λ i. nat_le start i.start) held

abbrev pub opened_at : ℕ → TimedValue → Interval
opened_at start point = record { start = start; points = point ∷ [] }

-- intervals that all start after `s`, which is not before `t`: none is before `t`, all are after, and `t` is not there
pub above : (is : List Interval) (s t : ℕ) → RisesAfter s is → t ≤ s
    → (filter (λ i. nat_lt i.start t) is ≡ []) × (filter (λ i. nat_lt t i.start) is ≡ is) × (is_open is t ≡ false) × (find (λ i. i.start == t) is ≡ None)
above [] s t up le = (refl, refl, refl, refl)
above (i ∷ is) s t up le =
    let rest = above is i.start t up.1 (omega (arith, up.0)) in
    let not_before : nat_lt i.start t ≡ false = le-ltb i.start t (omega (arith, up.0)) in
    let after : nat_lt t i.start ≡ true = lt-ltb t i.start (omega (arith, up.0)) in
    let other : (i.start == t) ≡ false = eqb-other i.start t (omega (arith, up.0)) in
    (rw not_before rest.0, rw after (ap (λ ys. i ∷ ys) rest.1), rw other rest.2, rw other rest.3)

-- what becomes of the first of them
before_head : (i : Interval) (is : List Interval) (t : ℕ) (p : TimedValue) → i.start < t → with_point (i ∷ is) t p ≡ i ∷ with_point is t p
unfolding with_point
before_head i is t p lt =
    let before : nat_lt i.start t ≡ true = lt-ltb i.start t lt in
    let not_after : nat_lt t i.start ≡ false = le-ltb t i.start (omega arith) in
    let other : (i.start == t) ≡ false = eqb-other i.start t (omega arith) in
    rw (before, not_after, other) refl

at_head : (i : Interval) (is : List Interval) (t : ℕ) (p : TimedValue) → RisesAfter i.start is → i.start ≡ t
    → with_point (i ∷ is) t p ≡ record { start = i.start; points = i.points ++ p ∷ [] } ∷ is
unfolding with_point
at_head i is t p up e =
    let not_before : nat_lt i.start t ≡ false = le-ltb i.start t (omega (arith, e)) in
    let not_after : nat_lt t i.start ≡ false = le-ltb t i.start (omega (arith, e)) in
    let here : (i.start == t) ≡ true = eqb-same i.start t e in
    let rest = above is i.start t up (omega (arith, e)) in
    rw (not_before, not_after, here, rest.0, rest.1, e) refl

past_head : (i : Interval) (is : List Interval) (t : ℕ) (p : TimedValue) → RisesAfter i.start is → t < i.start
    → with_point (i ∷ is) t p ≡ opened_at t p ∷ i ∷ is
unfolding with_point
past_head i is t p up lt =
    let rest = above (i ∷ is) t t (lt, up) (omega arith) in
    λ n. rest.0 n ++ record { start = t; points = option_map_or (λ j. j.points) (rest.3 n) [] ++ p ∷ [] } ∷ rest.1 n

pub take_pushed : {X : Type 0} (ps : List X) (p : X) → take (length (ps ++ p ∷ []) - 1) (ps ++ p ∷ []) ≡ ps
take_pushed ps p =
    let n : length (ps ++ p ∷ []) - 1 ≡ length ps = omega (arith, length_push ps p) in
    rw (n, take-append-le (length ps) ps (p ∷ []) (omega arith)) (take_all (length ps) ps (omega arith))

one_plus : (n : ℕ) → 1 + n ≡ suc n
one_plus n = omega arith

-- what stands at the place of an interval, and what a point there makes
pub record Placed (held : List Interval) (t : ℕ) (at : ℕ) : Type 0 where
  pub within : at ≤ length held
  pub open_at : is_start_at held at t ≡ is_open held t
  pub there : is_open held t ≡ true → at < length held
  pub joins : (p : TimedValue) → is_open held t ≡ true → joined held at p ≡ with_point held t p
  pub opens : (p : TimedValue) → is_open held t ≡ false → insert held at (opened_at t p) ≡ with_point held t p

-- the first is the interval's own
at_first : (i : Interval) (is : List Interval) (t : ℕ) → RisesAfter i.start is → i.start ≡ t → Placed (i ∷ is) t 0
at_first i is t up e =
    let here : is_open (i ∷ is) t ≡ true = rw (eqb-same i.start t e) refl in
    record {
      within = omega arith;
      open_at = rw (eqb-same i.start t e) refl;
      there = λ is_there. omega arith;
      joins = λ p is_there. sym (at_head i is t p up e);
      opens = λ p absent. absurd (true≢false (sym here ∙ absent));
    }

-- the first is behind it
before_first : (i : Interval) (is : List Interval) (t : ℕ) → RisesAfter i.start is → t < i.start → Placed (i ∷ is) t 0
before_first i is t up lt =
    let absent : is_open (i ∷ is) t ≡ false = (above (i ∷ is) t t (lt, up) (omega arith)).2 in
    record {
      within = omega arith;
      open_at = eqb-other i.start t (omega arith) ∙ sym absent;
      there = λ is_there. absurd (true≢false (sym is_there ∙ absent));
      joins = λ p is_there. absurd (true≢false (sym is_there ∙ absent));
      opens = λ p none. sym (past_head i is t p up lt);
    }

-- the first is before it
behind_first : (i : Interval) (is : List Interval) (t at : ℕ) → i.start < t → Placed is t at → Placed (i ∷ is) t (suc at)
behind_first i is t at lt rest =
    let same : is_open (i ∷ is) t ≡ is_open is t = rw (eqb-other i.start t (omega arith)) refl in
    record {
      within = omega (arith, rest.within);
      open_at = rest.open_at ∙ sym same;
      there = λ is_there. omega (arith, rest.there (sym same ∙ is_there));
      joins = λ p is_there. ap (λ l. i ∷ l) (rest.joins p (sym same ∙ is_there)) ∙ sym (before_head i is t p lt);
      opens = λ p none. ap (λ l. i ∷ l) (rest.opens p (sym same ∙ none)) ∙ sym (before_head i is t p lt);
    }

pub placed : (held : List Interval) (s t : ℕ) → RisesAfter s held → Placed held t (place_for held t)
unfolding with_point
placed [] s t up = record {
  within = omega arith;
  open_at = refl;
  there = λ is_there. absurd (true≢false (sym is_there));
  joins = λ p is_there. absurd (true≢false (sym is_there));
  opens = λ p none. refl;
}
placed (i ∷ is) s t up = elim (cases_order i.start t) [
  | inl e ↦ rw (le-leb t i.start (omega (arith, e))) (at_first i is t up.1 e)
  | inr o ↦ elim o [
    | inl lt ↦ rw (lt-leb t i.start lt, one_plus) (behind_first i is t (place_for is t) lt (placed is i.start t up.1))
    | inr gt ↦ rw (le-leb t i.start (omega arith)) (before_first i is t up.1 gt)
  ]
]

-- the intervals still rise
pub rises_with : (is : List Interval) (s t : ℕ) (p : TimedValue) → RisesAfter s is → s < t → RisesAfter s (with_point is t p)
unfolding with_point
rises_with [] s t p up lt = (lt, tt)
rises_with (i ∷ is) s t p up lt = elim (cases_order i.start t) [
  | inl e ↦ rw (at_head i is t p up.1 e) (up.0, up.1)
  | inr o ↦ elim o [
    | inl below ↦ rw (before_head i is t p below) (up.0, rises_with is i.start t p up.1 below)
    | inr gt ↦ rw (past_head i is t p up.1 gt) (lt, (gt, up.1))
  ]
]

above_all : (is : List Interval) (t : ℕ) → RisesAfter t is → is_open is t ≡ false
above_all is t up = (above is t t up (omega arith)).2

-- ---- what holds of all intervals with one more point

abbrev pub count_in : List Interval → ℕ
count_in is = sum_by (λ i. length i.points) is

pub count_cons : (i : Interval) (is : List Interval) → count_in (i ∷ is) ≡ length i.points + count_in is
count_cons i is = sum_by-cons (λ i. length i.points) i is

-- one point more is held
pub count_with : (is : List Interval) (s t : ℕ) (p : TimedValue) → RisesAfter s is → count_in (with_point is t p) ≡ count_in is + 1
unfolding with_point
count_with [] s t p up = refl
count_with (i ∷ is) s t p up = elim (cases_order i.start t) [
  | inl e ↦
      let more : Interval = record { start = i.start; points = i.points ++ p ∷ [] } in
      rw (at_head i is t p up.1 e) (omega (arith, count_cons more is, count_cons i is, length_push i.points p))
  | inr o ↦ elim o [
    | inl below ↦ rw (before_head i is t p below) (omega (arith, count_cons i (with_point is t p), count_cons i is, count_with is i.start t p up.1))
    | inr gt ↦ rw (past_head i is t p up.1 gt) (omega (arith, count_cons (opened_at t p) (i ∷ is)))
  ]
]

-- and one interval more where the point's was not open
pub length_with : (is : List Interval) (s t : ℕ) (p : TimedValue) → RisesAfter s is
    → length (with_point is t p) ≡ (if is_open is t then length is else length is + 1)
unfolding with_point
length_with [] s t p up = refl
length_with (i ∷ is) s t p up = elim (cases_order i.start t) [
  | inl e ↦ rw (at_head i is t p up.1 e, eqb-same i.start t e) refl
  | inr o ↦ elim o [
    | inl below ↦ rw (before_head i is t p below, eqb-other i.start t (omega arith)) (by (is_open is t) refl (length_with is i.start t p up.1))
    | inr gt ↦ rw (past_head i is t p up.1 gt, (above_all (i ∷ is) t (gt, up.1))) (omega arith)
  ]
]
  where
    by : (b : Bool) → is_open is t ≡ b → length (with_point is t p) ≡ (if b then length is else length is + 1)
        → suc (length (with_point is t p)) ≡ (if b then suc (length is) else suc (length is) + 1)
    by true f h = ap suc h
    by false f h = omega (arith, h)

-- what holds of each and of the point's own holds of all
pub whole_with : (P : Interval → Type 0) (is : List Interval) (s t : ℕ) (p : TimedValue) → RisesAfter s is
    → ((ps : List TimedValue) → P (record { start = t; points = ps ++ p ∷ [] })) → AllByRecursion P is → AllByRecursion P (with_point is t p)
unfolding with_point
whole_with P [] s t p up own all = (own [], tt)
whole_with P (i ∷ is) s t p up own all = elim (cases_order i.start t) [
  | inl e ↦ rw (at_head i is t p up.1 e) (subst (λ (n : ℕ). P (record { start = n; points = i.points ++ p ∷ [] })) (sym e) (own i.points), all.1)
  | inr o ↦ elim o [
    | inl below ↦ rw (before_head i is t p below) (all.0, whole_with P is i.start t p up.1 own all.1)
    | inr gt ↦ rw (past_head i is t p up.1 gt) (own [], all)
  ]
]

-- what is taken back
pub parted_joined : (is : List Interval) (at : ℕ) (p : TimedValue) → parted (joined is at p) at ≡ is
parted_joined [] at p = refl
parted_joined (i ∷ is) zero p = ap (λ ps. record { start = i.start; points = ps } ∷ is) (take_pushed i.points p)
parted_joined (i ∷ is) (suc at) p = ap (λ l. i ∷ l) (parted_joined is at p)

pub length-joined : (is : List Interval) (at : ℕ) (p : TimedValue) → length (joined is at p) ≡ length is
length-joined [] at p = refl
length-joined (i ∷ is) zero p = refl
length-joined (i ∷ is) (suc at) p = ap suc (length-joined is at p)

pub remove-insert : (is : List Interval) (at : ℕ) (i : Interval) → at ≤ length is → remove (insert is at i) at ≡ is
remove-insert is zero i le = refl
remove-insert [] (suc at) i le = absurd (omega arith)
remove-insert (j ∷ is) (suc at) i le = ap (λ l. j ∷ l) (remove-insert is at i (omega arith))

-- what is written at a place
pub joined_is : (is : List Interval) (at : ℕ) (i : Interval) (ps : List TimedValue) (p : TimedValue) → at < length is → i ≡ get_or is at i → ps ≡ i.points ++ p ∷ []
    → slice_set is at (record { start = i.start; points = ps }) ≡ joined is at p
joined_is [] at i ps p lt same e = absurd (omega arith)
joined_is (j ∷ is) zero i ps p lt same e =
    let head : i ≡ j = same in
    let points : ps ≡ j.points ++ p ∷ [] = e ∙ ap (λ (k : Interval). k.points ++ p ∷ []) head in
    λ n. record { start = (head n).start; points = points n } ∷ is
joined_is (j ∷ is) (suc at) i ps p lt same e = ap (λ l. j ∷ l) (joined_is is at i ps p (omega arith) same e)

pub parted_is : (is : List Interval) (at : ℕ) (i : Interval) (ps : List TimedValue) → at < length is → i ≡ get_or is at i → ps ≡ take (length i.points - 1) i.points
    → slice_set is at (record { start = i.start; points = ps }) ≡ parted is at
parted_is [] at i ps lt same e = absurd (omega arith)
parted_is (j ∷ is) zero i ps lt same e =
    let head : i ≡ j = same in
    let points : ps ≡ take (length j.points - 1) j.points = e ∙ ap (λ (k : Interval). take (length k.points - 1) k.points) head in
    λ n. record { start = (head n).start; points = points n } ∷ is
parted_is (j ∷ is) (suc at) i ps lt same e = ap (λ l. j ∷ l) (parted_is is at i ps (omega arith) same e)

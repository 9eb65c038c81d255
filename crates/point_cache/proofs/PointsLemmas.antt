-- Lists of points in rising time.
use Rattle.std.proofs.Common.{◌≡◌, ◌≢◌, inl, inr, ℕ, ℤ, ◌+◌, ◌-◌, pos, get_or, ◌<◌, ◌≤◌, ◌==◌, suc, zero, nat_lt, true, false, List, [], ◌∷◌, filter, length, set, refl, sym, ap, subst, arith, insert}
use Rattle.std.proofs.lemmas.Bool.{le-ltb, lt-ltb, ltb-true, ltb-false, cases_order}
use Rattle.std.proofs.lemmas.Bool.Decides.{eqb_tells}
use Rattle.std.proofs.lemmas.List.{get_or_default}
use Rattle.std.specs.List.{AllAdjacentBelow}
use Rattle.std.specs.List.Sorted.{IsPartitionPoint, IsPartitionedBy}
use Rattle.std.proofs.lemmas.List.Sorted.{IsPartitionedBy-ltb, IsNonDecreasingBy-from_all_adjacent}
use Rattle.point_cache.specs.Points.{RisesAfter, IsRising, IsPlaceOf, IsPlaceFor, PutsAt, has_time, with_point}

-- equal numbers as a test
pub eqb-other : (a b : ℕ) → a ≢ b → (a == b) ≡ false
eqb-other a b ne = elim (eqb_tells a b) [ inl s ↦ absurd (ne s.1) | inr o ↦ o.0 ]

eqb-same : (a b : ℕ) → a ≡ b → (a == b) ≡ true
eqb-same a b e = elim (eqb_tells a b) [ inl s ↦ s.0 | inr o ↦ absurd (o.1 e) ]

-- points that all come after a time `s`, which is not before `t`: none is before `t`, all are after, and `t` is not there
pub above : (xs : List (ℕ × ℤ)) (s t : ℕ) → RisesAfter s xs → t ≤ s
    → (filter (λ p. nat_lt p.0 t) xs ≡ []) × (filter (λ p. nat_lt t p.0) xs ≡ xs) × (has_time xs t ≡ false)
above [] s t up le = (refl, refl, refl)
above (x ∷ xs) s t up le =
    let rest = above xs x.0 t up.1 (omega (arith, up.0)) in
    let not_before : nat_lt x.0 t ≡ false = le-ltb x.0 t (omega (arith, up.0)) in
    let after : nat_lt t x.0 ≡ true = lt-ltb t x.0 (omega (arith, up.0)) in
    let other : (x.0 == t) ≡ false = eqb-other x.0 t (omega (arith, up.0)) in
    (rw not_before rest.0, rw after (ap (λ ys. x ∷ ys) rest.1), rw other rest.2)

-- the tail of a rising list rises after each time that is not after its head's
tail-rises : (x : ℕ × ℤ) (xs : List (ℕ × ℤ)) → RisesAfter x.0 xs → IsRising xs
tail-rises x [] up = tt
tail-rises x (y ∷ ys) up = up.1

-- what a put of a point at `t` makes of points whose first is x
before_head : (x : ℕ × ℤ) (xs : List (ℕ × ℤ)) (t : ℕ) (v : ℤ) → x.0 < t → with_point (x ∷ xs) t v ≡ x ∷ with_point xs t v
before_head x xs t v lt =
    let before : nat_lt x.0 t ≡ true = lt-ltb x.0 t lt in
    let not_after : nat_lt t x.0 ≡ false = le-ltb t x.0 (omega arith) in
    rw (before, not_after) refl

at_head : (x : ℕ × ℤ) (xs : List (ℕ × ℤ)) (t : ℕ) (v : ℤ) → RisesAfter x.0 xs → x.0 ≡ t → with_point (x ∷ xs) t v ≡ (t, v) ∷ xs
at_head x xs t v up e =
    let not_before : nat_lt x.0 t ≡ false = le-ltb x.0 t (omega (arith, e)) in
    let not_after : nat_lt t x.0 ≡ false = le-ltb t x.0 (omega (arith, e)) in
    let rest = above xs x.0 t up (omega (arith, e)) in
    rw (not_before, not_after, rest.0, rest.1) refl

past_head : (x : ℕ × ℤ) (xs : List (ℕ × ℤ)) (t : ℕ) (v : ℤ) → RisesAfter x.0 xs → t < x.0 → with_point (x ∷ xs) t v ≡ (t, v) ∷ x ∷ xs
past_head x xs t v up lt =
    let not_before : nat_lt x.0 t ≡ false = le-ltb x.0 t (omega arith) in
    let after : nat_lt t x.0 ≡ true = lt-ltb t x.0 lt in
    let rest = above xs x.0 t up (omega arith) in
    rw (not_before, after, rest.0, rest.1) refl

-- a point put into points that rise after `s`, at a time after `s`, leaves points that do
rises_with : (xs : List (ℕ × ℤ)) (s t : ℕ) (v : ℤ) → RisesAfter s xs → s < t → RisesAfter s (with_point xs t v)
rises_with [] s t v up lt = (lt, tt)
rises_with (x ∷ xs) s t v up lt = elim (cases_order x.0 t) [
  | inl e ↦ rw (at_head x xs t v up.1 e) (lt, subst (λ (n : ℕ). RisesAfter n xs) e up.1)
  | inr o ↦ elim o [
    | inl below ↦ rw (before_head x xs t v below) (up.0, rises_with xs x.0 t v up.1 below)
    | inr above ↦ rw (past_head x xs t v up.1 above) (lt, (above, up.1))
  ]
]

pub rising_with : (xs : List (ℕ × ℤ)) (t : ℕ) (v : ℤ) → IsRising xs → IsRising (with_point xs t v)
rising_with [] t v up = tt
rising_with (x ∷ xs) t v up = elim (cases_order x.0 t) [
  | inl e ↦ rw (at_head x xs t v up e) (subst (λ (n : ℕ). RisesAfter n xs) e up)
  | inr o ↦ elim o [
    | inl below ↦ rw (before_head x xs t v below) (rises_with xs x.0 t v up below)
    | inr above ↦ rw (past_head x xs t v up above) (above, up)
  ]
]

-- such places, from all but that the points stay rising
place_of_lem : (xs : List (ℕ × ℤ)) (i t : ℕ) → IsRising xs → i < length xs → has_time xs t ≡ true
    → ((v : ℤ) → set xs i (t, v) ≡ with_point xs t v) → IsPlaceOf xs t i
place_of_lem xs i t up within there written =
    record { within = within; there = there; written = written; rising = λ v. subst IsRising (sym (written v)) (rising_with xs t v up) }

place_for_lem : (xs : List (ℕ × ℤ)) (i t : ℕ) → IsRising xs → i ≤ length xs → has_time xs t ≡ false
    → ((v : ℤ) → insert xs i (t, v) ≡ with_point xs t v) → IsPlaceFor xs t i
place_for_lem xs i t up within absent inserted =
    record { within = within; absent = absent; inserted = inserted; rising = λ v. subst IsRising (sym (inserted v)) (rising_with xs t v up) }

-- the place of a time in rising points: those before it are before the time, and the others are not
pub puts_at : (xs : List (ℕ × ℤ)) (i t : ℕ) → IsRising xs → i ≤ length xs
    → IsPartitionPoint (λ p. nat_lt p.0 t ≡ true) (λ p. nat_lt p.0 t ≡ false) xs i → PutsAt xs i t
puts_at [] zero t up within parts = record {
  here = λ d lt e. absurd (omega arith);
  other = λ ne. place_for_lem [] 0 t up (omega arith) refl (λ v. refl);
}
puts_at [] (suc i) t up within parts = absurd (omega arith)
puts_at (x ∷ xs) zero t up within parts =
    let not_before : nat_lt x.0 t ≡ false = parts.1 0 x (omega arith) (omega arith) in
    let ge : t ≤ x.0 = ltb-false x.0 t not_before in
    let rest = above xs x.0 t up ge in
    record {
      here = λ d lt e.
          let not_after : nat_lt t x.0 ≡ false = le-ltb t x.0 (omega (arith, e)) in
          let same : (x.0 == t) ≡ true = eqb-same x.0 t e in
          place_of_lem _ 0 t up (omega arith) (rw same refl) (λ v. rw (not_before, not_after, rest.0, rest.1) refl);
      other = λ ne.
          let far = ne (omega arith) x in
          let after : nat_lt t x.0 ≡ true = lt-ltb t x.0 (omega (arith, far)) in
          let different : (x.0 == t) ≡ false = eqb-other x.0 t far in
          place_for_lem _ 0 t up (omega arith) (rw different rest.2) (λ v. rw (not_before, after, rest.0, rest.1) refl);
    }
puts_at (x ∷ xs) (suc i) t up within parts =
    let before : nat_lt x.0 t ≡ true = parts.0 0 x (omega arith) (omega arith) in
    let lt : x.0 < t = ltb-true x.0 t before in
    let not_after : nat_lt t x.0 ≡ false = le-ltb t x.0 (omega arith) in
    let different : (x.0 == t) ≡ false = eqb-other x.0 t (omega arith) in
    let rest = puts_at xs i t (tail-rises x xs up) (omega arith) (λ k d lo hi. parts.0 (suc k) d (omega arith) (omega arith), λ k d lo hi. parts.1 (suc k) d (omega arith) (omega arith)) in
    record {
      here = λ d lt e.
          let h = rest.here d (omega arith) e in
          place_of_lem _ (suc i) t up (omega (arith, h.within)) (rw different h.there) (λ v. rw (before, not_after) (ap (λ ys. x ∷ ys) (h.written v)));
      other = λ ne.
          let h = rest.other (λ lt. ne (omega arith)) in
          place_for_lem _ (suc i) t up (omega (arith, h.within)) (rw different h.absent) (λ v. rw (before, not_after) (ap (λ ys. x ∷ ys) (h.inserted v)));
    }

-- points in rising time are parted by each time
adjacent : (xs : List (ℕ × ℤ)) → IsRising xs → AllAdjacentBelow (λ x y. x.0 ≤ y.0) xs (length xs)
adjacent [] up k d lt = absurd (omega arith)
adjacent (x ∷ []) up k d lt = absurd (omega arith)
adjacent (x ∷ y ∷ ys) up zero d lt = omega (arith, up.0)
adjacent (x ∷ y ∷ ys) up (suc k) d lt = let e : suc k + 1 ≡ suc (k + 1) = omega arith in rw e (adjacent (y ∷ ys) up.1 k d (omega arith))

pub parted : (xs : List (ℕ × ℤ)) (t : ℕ) → IsRising xs → IsPartitionedBy (λ p. nat_lt p.0 t) xs
parted xs t up = IsPartitionedBy-ltb (λ p. p.0) xs t (IsNonDecreasingBy-from_all_adjacent (λ p. p.0) xs (adjacent xs up))

-- the place behind all points is that of a later time
pub puts_last : (xs : List (ℕ × ℤ)) (t : ℕ) → IsRising xs → 0 < length xs → (get_or xs (length xs - 1) (0, pos 0)).0 < t → PutsAt xs (length xs) t
puts_last xs t up some late =
    let passes : (d : ℕ × ℤ) → nat_lt (get_or xs (length xs - 1) d).0 t ≡ true =
    λ d. lt-ltb _ _ (subst (λ (p : ℕ × ℤ). p.0 < t) (get_or_default xs (length xs - 1) (0, pos 0) d (omega arith)) late) in
    puts_at xs (length xs) t up (omega arith)
    ((λ k d lo hi. parted xs t up k (length xs - 1) d (omega arith) (omega arith) (passes d)), (λ k d lo hi. absurd (omega arith)))

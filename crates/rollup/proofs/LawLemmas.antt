-- Lemmas on the values that are picked from known values.
use Rattle.std.proofs.Common.{◌≡◌, ◌≢◌, ℕ, zero, suc, ℤ, ◌<◌, ◌≤◌, ◌≤ℤ◌, Bool, true, false, nat_lt, List, [], ◌∷◌, All, Contains, find, fold, Some, ◌⊎◌, inl, inr, refl, sym, subst, ◌∙◌, arith, unsigned_abs}
use Rattle.std.specs.Int.{int_max, int_min}
use Rattle.std.proofs.lemmas.Bool.Decides.{eqb_tells, nat_tests}
use Rattle.std.proofs.lemmas.Int.{fold-int_max_bounds, fold-int_max_reached, fold-int_min_bounds, fold-int_min_reached}
use Rattle.std.proofs.lemmas.List.Elements.{All-cons, All-head, All-tail, Contains-append_cases, Contains-append_right}
use Rattle.ring_format.specs.declared.archive.Method.TheVariants.{Max, Min, AbsMax, AbsMin}
use Rattle.rollup.specs.Rollup.{farther, nearer, rolled}
use Rattle.rollup.specs.RollupLaws.{IsFarthest, IsGreatest, IsLeast, IsNearest, Picks, is_as_far}

-- ---- members

here : (x : ℤ) (xs : List ℤ) → Contains (x ∷ xs) x
here x xs = (0, omega arith, refl)

behind : (x : ℤ) (xs : List ℤ) (v : ℤ) → Contains xs v → Contains (x ∷ xs) v
behind x xs v held = Contains-append_right (x ∷ []) xs v held

first_or_behind : (x : ℤ) (xs : List ℤ) (v : ℤ) → (v ≡ x) ⊎ Contains xs v → Contains (x ∷ xs) v
first_or_behind x xs v (inl is) = subst (Contains (x ∷ xs)) (sym is) (here x xs)
first_or_behind x xs v (inr held) = behind x xs v held

only_one : (x v : ℤ) → Contains (x ∷ []) v → x ≡ v
only_one x v (zero, within, is) = is
only_one x v (suc k, within, is) = absurd (omega arith)

-- a value of which one of two stands in front is behind both
one_of_two : (x y z : ℤ) (xs : List ℤ) (v : ℤ) → (z ≡ x) ⊎ (z ≡ y) → Contains (z ∷ xs) v → Contains (x ∷ y ∷ xs) v
one_of_two x y z xs v (inr is) held = behind x (y ∷ xs) v (subst (λ (z : ℤ). Contains (z ∷ xs) v) is held)
one_of_two x y z xs v (inl is) held =
    elim (Contains-append_cases (x ∷ []) xs v (subst (λ (z : ℤ). Contains (z ∷ xs) v) is held)) [
      | inl first ↦ subst (Contains (x ∷ y ∷ xs)) (only_one x v first) (here x (y ∷ xs))
      | inr later ↦ behind x (y ∷ xs) v (behind y xs v later)
    ]

-- ---- the greatest and the least

pub picks_greatest : Picks Max IsGreatest
unfolding rolled
picks_greatest [] all = refl
picks_greatest (x ∷ xs) all =
    let bounds = fold-int_max_bounds x xs (fold int_max x xs) refl in
    record { member = first_or_behind x xs (fold int_max x xs) (fold-int_max_reached x xs (fold int_max x xs) refl); bound = All-cons (λ other. other ≤ℤ fold int_max x xs) x xs bounds.0 bounds.1 }

pub picks_least : Picks Min IsLeast
unfolding rolled
picks_least [] all = refl
picks_least (x ∷ xs) all =
    let bounds = fold-int_min_bounds x xs (fold int_min x xs) refl in
    record { member = first_or_behind x xs (fold int_min x xs) (fold-int_min_reached x xs (fold int_min x xs) refl); bound = All-cons (λ other. fold int_min x xs ≤ℤ other) x xs bounds.0 bounds.1 }

-- ---- the farthest from zero

abbrev far : ℤ → ℕ
far v = unsigned_abs v

farther_of : (x y : ℤ) → ((farther x y ≡ x) × (far y ≤ far x)) ⊎ ((farther x y ≡ y) × (far x < far y))
farther_of x y = by (nat_lt (far x) (far y)) refl
  where
    by : (is : Bool) → nat_lt (far x) (far y) ≡ is → ((farther x y ≡ x) × (far y ≤ far x)) ⊎ ((farther x y ≡ y) × (far x < far y))
    by true e = inr (rw e refl, grind (arith, nat_tests))
    by false e = inl (rw e refl, grind (arith, nat_tests))

-- what is not as far is passed over
passed_over : (x v : ℤ) (xs : List ℤ) → far x ≢ far v → find (is_as_far v) (x ∷ xs) ≡ find (is_as_far v) xs
passed_over x v xs apart = elim (eqb_tells (far x) (far v)) [ inl same ↦ absurd (apart same.1) | inr differs ↦ rw differs.0 refl ]

taken : (x v : ℤ) (xs : List ℤ) → far x ≡ far v → find (is_as_far v) (x ∷ xs) ≡ Some x
taken x v xs same = elim (eqb_tells (far x) (far v)) [ inl is ↦ rw is.0 refl | inr differs ↦ absurd (differs.1 same) ]

-- the first of two stays in front: a second that is no farther, and not of the magnitude sought unless the first is, changes nothing
first_stays : (x y v : ℤ) (xs : List ℤ) → (far y ≡ far v → far x ≡ far v) → find (is_as_far v) (x ∷ xs) ≡ Some v → find (is_as_far v) (x ∷ y ∷ xs) ≡ Some v
first_stays x y v xs tie found =
    elim (eqb_tells (far x) (far v)) [
      | inl same ↦ taken x v (y ∷ xs) same.1 ∙ sym (taken x v xs same.1) ∙ found
      | inr apart ↦
          let none : far y ≢ far v = λ e. apart.1 (tie e) in
          passed_over x v (y ∷ xs) apart.1 ∙ passed_over y v xs none ∙ sym (passed_over x v xs apart.1) ∙ found
    ]

farthest_more : (x y : ℤ) (ys : List ℤ) (v : ℤ) → IsFarthest (farther x y ∷ ys) v → IsFarthest (x ∷ y ∷ ys) v
farthest_more x y ys v held = by (farther_of x y)
  where
    most : far (farther x y) ≤ far v
    most = All-head (λ other. far other ≤ far v) (farther x y) ys held.bound

    others : All (λ other. far other ≤ far v) ys
    others = All-tail (λ other. far other ≤ far v) (farther x y) ys held.bound

    both : far x ≤ far v → far y ≤ far v → All (λ other. far other ≤ far v) (x ∷ y ∷ ys)
    both first second = All-cons (λ other. far other ≤ far v) x (y ∷ ys) first (All-cons (λ other. far other ≤ far v) y ys second others)

    by : ((farther x y ≡ x) × (far y ≤ far x)) ⊎ ((farther x y ≡ y) × (far x < far y)) → IsFarthest (x ∷ y ∷ ys) v
    by (inl first) =
        let x_most : far x ≤ far v = subst (λ (z : ℤ). far z ≤ far v) first.0 most in
        let less = first.1 in
        record {
          member = one_of_two x y (farther x y) ys v (inl first.0) held.member;
          bound = both x_most (omega arith);
          earliest = first_stays x y v ys (λ e. omega arith) (subst (λ (z : ℤ). find (is_as_far v) (z ∷ ys) ≡ Some v) first.0 held.earliest);
        }
    by (inr second) =
        let y_most : far y ≤ far v = subst (λ (z : ℤ). far z ≤ far v) second.0 most in
        let less = second.1 in
        record {
          member = one_of_two x y (farther x y) ys v (inr second.0) held.member;
          bound = both (omega arith) y_most;
          earliest = passed_over x v (y ∷ ys) (λ e. omega arith) ∙ subst (λ (z : ℤ). find (is_as_far v) (z ∷ ys) ≡ Some v) second.0 held.earliest;
        }

farthest : (x : ℤ) (xs : List ℤ) → IsFarthest (x ∷ xs) (fold farther x xs)
farthest x [] = record { member = here x []; bound = All-cons (λ other. far other ≤ far x) x [] (omega arith) (λ k d lt. absurd (omega arith)); earliest = taken x x [] refl }
farthest x (y ∷ ys) = farthest_more x y ys (fold farther (farther x y) ys) (farthest (farther x y) ys)

pub picks_farthest : Picks AbsMax IsFarthest
unfolding rolled
picks_farthest [] all = refl
picks_farthest (x ∷ xs) all = farthest x xs

-- ---- the nearest to zero

nearer_of : (x y : ℤ) → ((nearer x y ≡ x) × (far x ≤ far y)) ⊎ ((nearer x y ≡ y) × (far y < far x))
nearer_of x y = by (nat_lt (far y) (far x)) refl
  where
    by : (is : Bool) → nat_lt (far y) (far x) ≡ is → ((nearer x y ≡ x) × (far x ≤ far y)) ⊎ ((nearer x y ≡ y) × (far y < far x))
    by true e = inr (rw e refl, grind (arith, nat_tests))
    by false e = inl (rw e refl, grind (arith, nat_tests))

nearest_more : (x y : ℤ) (ys : List ℤ) (v : ℤ) → IsNearest (nearer x y ∷ ys) v → IsNearest (x ∷ y ∷ ys) v
nearest_more x y ys v held = by (nearer_of x y)
  where
    least : far v ≤ far (nearer x y)
    least = All-head (λ other. far v ≤ far other) (nearer x y) ys held.bound

    others : All (λ other. far v ≤ far other) ys
    others = All-tail (λ other. far v ≤ far other) (nearer x y) ys held.bound

    both : far v ≤ far x → far v ≤ far y → All (λ other. far v ≤ far other) (x ∷ y ∷ ys)
    both first second = All-cons (λ other. far v ≤ far other) x (y ∷ ys) first (All-cons (λ other. far v ≤ far other) y ys second others)

    by : ((nearer x y ≡ x) × (far x ≤ far y)) ⊎ ((nearer x y ≡ y) × (far y < far x)) → IsNearest (x ∷ y ∷ ys) v
    by (inl first) =
        let x_least : far v ≤ far x = subst (λ (z : ℤ). far v ≤ far z) first.0 least in
        let more = first.1 in
        record {
          member = one_of_two x y (nearer x y) ys v (inl first.0) held.member;
          bound = both x_least (omega arith);
          earliest = first_stays x y v ys (λ e. omega arith) (subst (λ (z : ℤ). find (is_as_far v) (z ∷ ys) ≡ Some v) first.0 held.earliest);
        }
    by (inr second) =
        let y_least : far v ≤ far y = subst (λ (z : ℤ). far v ≤ far z) second.0 least in
        let more = second.1 in
        record {
          member = one_of_two x y (nearer x y) ys v (inr second.0) held.member;
          bound = both (omega arith) y_least;
          earliest = passed_over x v (y ∷ ys) (λ e. omega arith) ∙ subst (λ (z : ℤ). find (is_as_far v) (z ∷ ys) ≡ Some v) second.0 held.earliest;
        }

nearest : (x : ℤ) (xs : List ℤ) → IsNearest (x ∷ xs) (fold nearer x xs)
nearest x [] = record { member = here x []; bound = All-cons (λ other. far x ≤ far other) x [] (omega arith) (λ k d lt. absurd (omega arith)); earliest = taken x x [] refl }
nearest x (y ∷ ys) = nearest_more x y ys (fold nearer (nearer x y) ys) (nearest (nearer x y) ys)

pub picks_nearest : Picks AbsMin IsNearest
unfolding rolled
picks_nearest [] all = refl
picks_nearest (x ∷ xs) all = nearest x xs

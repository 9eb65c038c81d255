-- Points in rising time, and where a time cuts them.
use Rattle.std.proofs.Common.{◌≡◌, ℕ, ℤ, pos, ◌+◌, ◌-◌, ◌*◌, ◌/◌, ◌%◌, ◌==◌, ◌<◌, ◌≤◌, suc, zero, Bool, true, false, cond, nat_lt, List, [], ◌∷◌, length, get_or, take, drop, map, filter, inl, inr, refl, sym, ap, ◌∙◌, arith, length-take, length-drop}
use Rattle.std.specs.List.{AllWithin, All}
use Rattle.std.specs.List.Sorted.{IsPartitionPoint}
use Rattle.std.proofs.lemmas.Bool.{cases_lt, ltb-true, ltb-false}
use Rattle.std.proofs.lemmas.Bool.Decides.{eqb_tells}
use Rattle.std.proofs.lemmas.List.{get_or_default, get_or-drop, get_or-take, take-map, drop-map}
use Rattle.std.proofs.lemmas.Nat.{div-add-mod', mod_below, mod-mul-add}
use Rattle.point_cache.specs.Points.{RisesAfter, IsRising}
use Rattle.series_fetch.specs.Cut.{IsCut}
use Rattle.series_fetch.specs.Shown.{values_in}

-- ---- rising times

-- points that rise after a time are each later by at least a second more
rises_past : (t : ℕ) (xs : List (ℕ × ℤ)) (j : ℕ) (d : ℕ × ℤ) → RisesAfter t xs → j < length xs → t + suc j ≤ (get_or xs j d).0
rises_past t [] j d up within = absurd (omega arith)
rises_past t (x ∷ xs) zero d up within = omega (arith, up.0)
rises_past t (x ∷ xs) (suc j) d up within = omega (arith, up.0, rises_past x.0 xs j d up.1 (omega arith))

tail_rises : (x : ℕ × ℤ) (xs : List (ℕ × ℤ)) → IsRising (x ∷ xs) → IsRising xs
tail_rises x [] up = tt
tail_rises x (y ∷ ys) up = up.1

-- two points of rising times are as many seconds apart as places, or more
pub rises_by : (xs : List (ℕ × ℤ)) (i j : ℕ) (d : ℕ × ℤ) → IsRising xs → i ≤ j → j < length xs → (get_or xs i d).0 + (j - i) ≤ (get_or xs j d).0
rises_by [] i j d up order within = absurd (omega arith)
rises_by (x ∷ xs) zero zero d up order within = omega arith
rises_by (x ∷ xs) zero (suc j) d up order within = omega (arith, rises_past x.0 xs j d up (omega arith))
rises_by (x ∷ xs) (suc i) zero d up order within = absurd (omega arith)
rises_by (x ∷ xs) (suc i) (suc j) d up order within = omega (arith, rises_by xs i j d (tail_rises x xs up) (omega arith) (omega arith))

rises-drop : (n : ℕ) (xs : List (ℕ × ℤ)) → IsRising xs → IsRising (drop n xs)
rises-drop zero xs up = up
rises-drop (suc n) [] up = tt
rises-drop (suc n) (x ∷ xs) up = rises-drop n xs (tail_rises x xs up)

rises_after-take : (t n : ℕ) (xs : List (ℕ × ℤ)) → RisesAfter t xs → RisesAfter t (take n xs)
rises_after-take t zero xs up = tt
rises_after-take t (suc n) [] up = tt
rises_after-take t (suc n) (x ∷ xs) up = (up.0, rises_after-take x.0 n xs up.1)

rises-take : (n : ℕ) (xs : List (ℕ × ℤ)) → IsRising xs → IsRising (take n xs)
rises-take zero xs up = tt
rises-take (suc n) [] up = tt
rises-take (suc n) (x ∷ xs) up = rises_after-take x.0 n xs up

pub part_rises : (xs : List (ℕ × ℤ)) (i n : ℕ) → IsRising xs → IsRising (take n (drop i xs))
part_rises xs i n up = rises-take n (drop i xs) (rises-drop i xs up)

-- ---- cuts

pub cut_at : (xs : List (ℕ × ℤ)) (time i : ℕ) → i ≤ length xs → IsPartitionPoint (λ p. nat_lt p.0 time ≡ true) (λ p. nat_lt p.0 time ≡ false) xs i → IsCut xs time i
cut_at xs time i within parts = record {
  within = within;
  before = λ k d l u. ltb-true (get_or xs k d).0 time (parts.0 k d l u);
  behind = λ k d l u. ltb-false (get_or xs k d).0 time (parts.1 k d l u);
}

-- the first point that is not before a time cuts there
pub cut_here : (xs : List (ℕ × ℤ)) (time i : ℕ) (d : ℕ × ℤ) → IsRising xs → i < length xs → AllWithin (λ p. p.0 < time) xs 0 i → time ≤ (get_or xs i d).0 → IsCut xs time i
cut_here xs time i d up within before here = record {
  within = omega arith;
  before = before;
  behind = λ k e l u. rw (get_or_default xs k e d u) (omega (arith, here, rises_by xs i k d up l u));
}

-- a later time cuts no earlier
pub cuts_in_order : (xs : List (ℕ × ℤ)) (first end i j : ℕ) → IsCut xs first i → IsCut xs end j → first ≤ end → i ≤ j
cuts_in_order xs first end i j a b order =
    elim (cases_lt j i) [
      | inl lt ↦ absurd (omega (arith, a.before j (0, pos 0) (omega arith) lt, b.behind j (0, pos 0) (omega arith) (omega (arith, a.within))))
      | inr le ↦ le
    ]

-- the points of a stretch begin at or after its start
pub part_from : (xs : List (ℕ × ℤ)) (first i n : ℕ) → IsCut xs first i → All (λ p. first ≤ p.0) (take n (drop i xs))
part_from xs first i n cut k d u =
    let few : k < n = omega (arith, length-take n (drop i xs)) in
    let there : i + k < length xs = omega (arith, length-take n (drop i xs), length-drop i xs, cut.within) in
    rw (get_or-take n (drop i xs) k d few, get_or-drop) (cut.behind (i + k) d (omega arith) there)

-- few points lie between two times
pub few_between : (xs : List (ℕ × ℤ)) (first step i j : ℕ) → IsRising xs → IsCut xs first i → IsCut xs (first + step) j → i ≤ j → j - i ≤ step
few_between xs first step i j up a b order =
    elim (cases_lt i j) [
      | inl lt ↦
          let last : j - 1 < length xs = omega (arith, b.within) in
          let apart = rises_by xs i (j - 1) (0, pos 0) up (omega arith) last in
          let start = a.behind i (0, pos 0) (omega arith) (omega (arith, b.within)) in
          let end = b.before (j - 1) (0, pos 0) (omega arith) (omega arith) in
          omega arith
      | inr le ↦ omega arith
    ]

-- ---- filters

filter-none : {X : Type 0} (p : X → Bool) (xs : List X) → ((k : ℕ) (d : X) → k < length xs → p (get_or xs k d) ≡ false) → filter p xs ≡ []
filter-none p [] fails = refl
filter-none p (x ∷ xs) fails = let here : p x ≡ false = fails 0 x (omega arith) in rw here (filter-none p xs (λ k d u. fails (suc k) d (omega arith)))

filter-all : {X : Type 0} (p : X → Bool) (xs : List X) → ((k : ℕ) (d : X) → k < length xs → p (get_or xs k d) ≡ true) → filter p xs ≡ xs
filter-all p [] passes = refl
filter-all p (x ∷ xs) passes = let here : p x ≡ true = passes 0 x (omega arith) in rw here (ap (λ ys. x ∷ ys) (filter-all p xs (λ k d u. passes (suc k) d (omega arith))))

-- what fails in front is left out
filter-drop : {X : Type 0} (p : X → Bool) (xs : List X) (i : ℕ) → i ≤ length xs → ((k : ℕ) (d : X) → k < i → p (get_or xs k d) ≡ false) → filter p xs ≡ filter p (drop i xs)
filter-drop p xs zero within fails = refl
filter-drop p [] (suc i) within fails = refl
filter-drop p (x ∷ xs) (suc i) within fails = let here : p x ≡ false = fails 0 x (omega arith) in rw here (filter-drop p xs i (omega arith) (λ k d u. fails (suc k) d (omega arith)))

-- and what fails behind
filter-take : {X : Type 0} (p : X → Bool) (xs : List X) (n : ℕ) → ((k : ℕ) (d : X) → n ≤ k → k < length xs → p (get_or xs k d) ≡ false) → filter p xs ≡ filter p (take n xs)
filter-take p [] zero fails = refl
filter-take p [] (suc n) fails = refl
filter-take p (x ∷ xs) zero fails = filter-none p (x ∷ xs) (λ k d u. fails k d (omega arith) u)
filter-take p (x ∷ xs) (suc n) fails = ap (λ ys. cond (p x) (x ∷ ys) ys) (filter-take p xs n (λ k d l u. fails (suc k) d (omega arith) (omega arith)))

pub filter-part : {X : Type 0} (p : X → Bool) (xs : List X) (i j : ℕ) → i ≤ j → j ≤ length xs → ((k : ℕ) (d : X) → k < i → p (get_or xs k d) ≡ false) → ((k : ℕ) (d : X) → j ≤ k → k < length xs → p (get_or xs k d) ≡ false)
    → filter p xs ≡ filter p (take (j - i) (drop i xs))
filter-part p xs i j order within front behind =
    filter-drop p xs i (omega arith) front
    ∙ filter-take p (drop i xs) (j - i) (λ k d l u. rw get_or-drop (behind (i + k) d (omega arith) (omega (arith, length-drop i xs))))

-- ---- buckets

-- the bucket of an earlier moment is another
earlier_bucket : (step bucket time : ℕ) → time < bucket → (time - time % step == bucket) ≡ false
earlier_bucket step bucket time before =
    elim (eqb_tells (time - time % step) bucket) [ inl same ↦ absurd (omega (arith, same.1)) | inr other ↦ other.0 ]

-- the bucket of a later moment is another
later_bucket : (step bucket time : ℕ) → 0 < step → bucket + step ≤ time → (time - time % step == bucket) ≡ false
later_bucket step bucket time some behind =
    elim (eqb_tells (time - time % step) bucket) [ inl same ↦ absurd (omega (arith, same.1, mod_below time step some)) | inr other ↦ other.0 ]

-- the moments of a bucket
own_bucket : (step bucket time : ℕ) → 0 < step → bucket % step ≡ 0 → bucket ≤ time → time < bucket + step → (time - time % step == bucket) ≡ true
own_bucket step bucket time some whole from before =
    let product : bucket / step * step ≡ bucket = omega (arith, div-add-mod' bucket step) in
    let rest : time % step ≡ time - bucket = ap (λ (n : ℕ). n % step) (let sum : time ≡ bucket / step * step + (time - bucket) = omega arith in sum) ∙ mod-mul-add (bucket / step) step (time - bucket) (omega arith) in
    elim (eqb_tells (time - time % step) bucket) [ inl same ↦ same.0 | inr other ↦ absurd (other.1 (omega arith)) ]

-- ---- the values of a bucket

-- the points of a stretch have the values of its buckets
pub values_of_stretch : (xs : List (ℕ × ℤ)) (first end i j step bucket : ℕ) → IsCut xs first i → IsCut xs end j → i ≤ j → 0 < step → first ≤ bucket → bucket + step ≤ end
    → values_in step (take (j - i) (drop i xs)) bucket ≡ values_in step xs bucket
values_of_stretch xs first end i j step bucket a b order some from until =
    sym (ap (map (λ (p : ℕ × ℤ). p.1)) (filter-part (λ (p : ℕ × ℤ). p.0 - p.0 % step == bucket) xs i j order b.within
    (λ k d u. earlier_bucket step bucket (get_or xs k d).0 (omega (arith, a.before k d (omega arith) u)))
    (λ k d l u. later_bucket step bucket (get_or xs k d).0 some (omega (arith, b.behind k d l u)))))

-- the points between the start of a bucket and its end are those in it
pub values_of_bucket : (xs : List (ℕ × ℤ)) (known : List ℤ) (step bucket i j : ℕ) → IsCut xs bucket i → IsCut xs (bucket + step) j → i ≤ j → 0 < step → bucket % step ≡ 0 → known ≡ map (λ p. p.1) xs
    → take (j - i) (drop i known) ≡ values_in step xs bucket
values_of_bucket xs known step bucket i j a b order some whole are =
    let part : List (ℕ × ℤ) = take (j - i) (drop i xs) in
    let all : filter (λ (p : ℕ × ℤ). p.0 - p.0 % step == bucket) part ≡ part =
    filter-all (λ (p : ℕ × ℤ). p.0 - p.0 % step == bucket) part (λ k d u.
    let few : k < j - i = omega (arith, length-take (j - i) (drop i xs)) in
    rw (get_or-take (j - i) (drop i xs) k d few, get_or-drop)
    (own_bucket step bucket (get_or xs (i + k) d).0 some whole (a.behind (i + k) d (omega arith) (omega (arith, b.within))) (b.before (i + k) d (omega arith) (omega arith)))) in
    ap (λ (vs : List ℤ). take (j - i) (drop i vs)) are ∙ ap (take (j - i)) (drop-map (λ (p : ℕ × ℤ). p.1) i xs) ∙ take-map (λ (p : ℕ × ℤ). p.1) (j - i) (drop i xs)
    ∙ ap (map (λ (p : ℕ × ℤ). p.1)) (sym all) ∙ values_of_stretch xs bucket (bucket + step) i j step bucket a b order some (omega arith) (omega arith)

-- the same of the points themselves
pub points_of_bucket : (xs : List (ℕ × ℤ)) (step bucket i j : ℕ) → IsCut xs bucket i → IsCut xs (bucket + step) j → i ≤ j → 0 < step → bucket % step ≡ 0
    → map (λ (p : ℕ × ℤ). p.1) (take (j - i) (drop i xs)) ≡ values_in step xs bucket
points_of_bucket xs step bucket i j a b order some whole =
    sym (ap (take (j - i)) (drop-map (λ (p : ℕ × ℤ). p.1) i xs) ∙ take-map (λ (p : ℕ × ℤ). p.1) (j - i) (drop i xs))
    ∙ values_of_bucket xs (map (λ (p : ℕ × ℤ). p.1) xs) step bucket i j a b order some whole refl

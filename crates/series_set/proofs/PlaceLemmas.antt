-- The places of a series' values and the buckets that their moments lie in.
use Rattle.std.proofs.Common.{◌≡◌, ℕ, zero, suc, ℤ, ◌+◌, ◌-◌, ◌*◌, ◌/◌, ◌%◌, ◌<◌, ◌≤◌, min, Bool, true, false, cond, List, [], ◌∷◌, length, get_or, take, drop, map, filter, Option, inl, inr, refl, sym, ap, ◌∙◌, arith, length-take, length-drop}
use Rattle.std.specs.Int.{div_ceil}
use Rattle.std.proofs.lemmas.Bool.{cases_lt}
use Rattle.std.proofs.lemmas.Bool.Decides.{nat_tests}
use Rattle.std.proofs.lemmas.List.{get_or-drop, get_or-take, take-map, drop-map}
use Rattle.std.proofs.lemmas.Nat.{div-add-mod', mod_below, mul-le}
use Rattle.series_set.specs.declared.grid.Grid.{Grid}
use Rattle.series_set.specs.Series.{IsSeries, SeriesValue, latest_end}
use Rattle.series_set.specs.Average.{average, known}
use Rattle.series_set.specs.CommonGrid.{IsGrid, value_count}
use Rattle.series_set.specs.OnGrid.{IsPlaceOf, bucket_value, is_between, points_from, values_between}

-- ---- the place of a moment

-- a quotient that is rounded up
pub ceil_over : (d step : ℕ) → 0 < d % step → div_ceil d step ≡ d / step + 1
ceil_over d step over = omega arith

pub ceil_whole : (d step : ℕ) → d % step ≤ 0 → div_ceil d step ≡ d / step
ceil_whole d step whole = omega arith

-- how many steps begin before so many seconds have passed
steps_before : (d step k : ℕ) → 1 ≤ step → k < div_ceil d step → k * step < d
steps_before d step k some below =
    let product = div-add-mod' d step in
    elim (cases_lt 0 (d % step)) [
      | inl over ↦ omega (arith, product, mul-le k step (d / step) step (omega (arith, ceil_over d step over)) (omega arith))
      | inr none ↦ omega (arith, product, mul-le (k + 1) step (d / step) step (omega (arith, ceil_whole d step none)) (omega arith))
    ]

pub steps_from : (d step k : ℕ) → 1 ≤ step → div_ceil d step ≤ k → d ≤ k * step
steps_from d step k some above =
    let product = div-add-mod' d step in
    elim (cases_lt 0 (d % step)) [
      | inl over ↦ omega (arith, product, mod_below d step some, mul-le (d / step + 1) step k step (omega (arith, ceil_over d step over)) (omega arith))
      | inr none ↦ omega (arith, product, mul-le (d / step) step k step (omega (arith, ceil_whole d step none)) (omega arith))
    ]

pub place_is : (s : SeriesValue) (moment : ℕ) → 1 ≤ s.step → IsPlaceOf s moment (min (length s.values) (div_ceil (moment - s.start) s.step))
place_is s moment some = record {
  within = omega arith;
  before = λ k below. omega (arith, steps_before (moment - s.start) s.step k some (omega arith));
  behind = λ k above within. omega (arith, steps_from (moment - s.start) s.step k some (omega arith));
}

-- a later moment has no earlier place
pub places_in_order : (s : SeriesValue) (from until i j : ℕ) → IsPlaceOf s from i → IsPlaceOf s until j → from ≤ until → i ≤ j
places_in_order s from until i j a b order =
    elim (cases_lt j i) [
      | inl lt ↦ absurd (omega (arith, a.before j lt, b.behind j (omega arith) (omega (arith, a.within))))
      | inr le ↦ le
    ]

-- ---- filters

filter-none : {X : Type 0} (p : X → Bool) (xs : List X) → ((k : ℕ) (d : X) → k < length xs → p (get_or xs k d) ≡ false) → filter p xs ≡ []
filter-none p [] fails = refl
filter-none p (x ∷ xs) fails = let here : p x ≡ false = fails 0 x (omega arith) in rw here (filter-none p xs (λ k d u. fails (suc k) d (omega arith)))

filter-all : {X : Type 0} (p : X → Bool) (xs : List X) → ((k : ℕ) (d : X) → k < length xs → p (get_or xs k d) ≡ true) → filter p xs ≡ xs
filter-all p [] passes = refl
filter-all p (x ∷ xs) passes = let here : p x ≡ true = passes 0 x (omega arith) in rw here (ap (λ ys. x ∷ ys) (filter-all p xs (λ k d u. passes (suc k) d (omega arith))))

-- what fails in front is left out, and what fails behind
filter-drop : {X : Type 0} (p : X → Bool) (xs : List X) (i : ℕ) → i ≤ length xs → ((k : ℕ) (d : X) → k < i → p (get_or xs k d) ≡ false) → filter p xs ≡ filter p (drop i xs)
filter-drop p xs zero within fails = refl
filter-drop p [] (suc i) within fails = refl
filter-drop p (x ∷ xs) (suc i) within fails = let here : p x ≡ false = fails 0 x (omega arith) in rw here (filter-drop p xs i (omega arith) (λ k d u. fails (suc k) d (omega arith)))

filter-take : {X : Type 0} (p : X → Bool) (xs : List X) (n : ℕ) → ((k : ℕ) (d : X) → n ≤ k → k < length xs → p (get_or xs k d) ≡ false) → filter p xs ≡ filter p (take n xs)
filter-take p [] zero fails = refl
filter-take p [] (suc n) fails = refl
filter-take p (x ∷ xs) zero fails = filter-none p (x ∷ xs) (λ k d u. fails k d (omega arith) u)
filter-take p (x ∷ xs) (suc n) fails = ap (λ ys. cond (p x) (x ∷ ys) ys) (filter-take p xs n (λ k d l u. fails (suc k) d (omega arith) (omega arith)))

-- what passes is a run
filter_run : {X : Type 0} (p : X → Bool) (xs : List X) (i j : ℕ) → i ≤ j → j ≤ length xs
    → ((k : ℕ) (d : X) → k < i → p (get_or xs k d) ≡ false) → ((k : ℕ) (d : X) → i ≤ k → k < j → p (get_or xs k d) ≡ true) → ((k : ℕ) (d : X) → j ≤ k → k < length xs → p (get_or xs k d) ≡ false)
    → filter p xs ≡ take (j - i) (drop i xs)
filter_run p xs i j order within front run behind =
    filter-drop p xs i (omega arith) front
    ∙ filter-take p (drop i xs) (j - i) (λ k d l u. rw get_or-drop (behind (i + k) d (omega arith) (omega (arith, length-drop i xs))))
    ∙ filter-all p (take (j - i) (drop i xs)) (λ k d u.
    let few : k < j - i = omega (arith, length-take (j - i) (drop i xs)) in
    rw (get_or-take (j - i) (drop i xs) k d few, get_or-drop) (run (i + k) d (omega arith) (omega arith)))

-- ---- the values of a bucket

length-points : (first step : ℕ) (values : List (Option ℤ)) → length (points_from first step values) ≡ length values
length-points first step [] = refl
length-points first step (v ∷ vs) = ap suc (length-points (first + step) step vs)

moment-points : (first step : ℕ) (values : List (Option ℤ)) (k : ℕ) (d : ℕ × Option ℤ) → k < length values → (get_or (points_from first step values) k d).0 ≡ first + k * step
moment-points first step [] k d within = absurd (omega arith)
moment-points first step (v ∷ vs) zero d within = omega arith
moment-points first step (v ∷ vs) (suc k) d within = omega (arith, moment-points (first + step) step vs k d (omega arith))

values-points : (first step : ℕ) (values : List (Option ℤ)) → map (λ (point : ℕ × Option ℤ). point.1) (points_from first step values) ≡ values
values-points first step [] = refl
values-points first step (v ∷ vs) = ap (λ ws. v ∷ ws) (values-points (first + step) step vs)

before_bucket : (from until : ℕ) (point : ℕ × Option ℤ) → point.0 < from → is_between from until point ≡ false
before_bucket from until point before = grind (arith, nat_tests)

in_bucket : (from until : ℕ) (point : ℕ × Option ℤ) → from ≤ point.0 → point.0 < until → is_between from until point ≡ true
in_bucket from until point above below = grind (arith, nat_tests)

behind_bucket : (from until : ℕ) (point : ℕ × Option ℤ) → until ≤ point.0 → is_between from until point ≡ false
behind_bucket from until point behind = grind (arith, nat_tests)

-- the values of a bucket are those between the places of its ends
pub values_of_run : (s : SeriesValue) (from until i j : ℕ) → IsPlaceOf s from i → IsPlaceOf s until j → from ≤ until → values_between s from until ≡ take (j - i) (drop i s.values)
unfolding values_between
values_of_run s from until i j a b order =
    let points = points_from s.start s.step s.values in
    let many : length points ≡ length s.values = length-points s.start s.step s.values in
    let sorted : i ≤ j = places_in_order s from until i j a b order in
    let moment = moment-points s.start s.step s.values in
    let run : filter (is_between from until) points ≡ take (j - i) (drop i points) =
    filter_run (is_between from until) points i j sorted (omega (arith, many, b.within))
    (λ k d u. before_bucket from until (get_or points k d) (omega (arith, a.before k u, moment k d (omega (arith, a.within)))))
    (λ k d l u. in_bucket from until (get_or points k d) (omega (arith, a.behind k l (omega (arith, b.within)), moment k d (omega (arith, b.within)))) (omega (arith, b.before k u, moment k d (omega (arith, b.within)))))
    (λ k d l u. behind_bucket from until (get_or points k d) (omega (arith, b.behind k l (omega (arith, many)), moment k d (omega (arith, many))))) in
    ap (map (λ (point : ℕ × Option ℤ). point.1)) run
    ∙ sym (take-map (λ (point : ℕ × Option ℤ). point.1) (j - i) (drop i points))
    ∙ ap (take (j - i)) (sym (drop-map (λ (point : ℕ × Option ℤ). point.1) i points) ∙ ap (drop i) (values-points s.start s.step s.values))

pub bucket_of_run : (s : SeriesValue) (grid : Grid) (k limit next i j : ℕ) → IsPlaceOf s limit i → IsPlaceOf s next j → limit ≡ grid.start + k * grid.step → next ≡ limit + grid.step → average (known (take (j - i) (drop i s.values))) ≡ bucket_value s grid k
unfolding bucket_value
bucket_of_run s grid k limit next i j a b limit_is next_is =
    let end : next ≡ grid.start + (k + 1) * grid.step = omega (arith, limit_is, next_is) in
    ap (λ values. average (known values)) (sym (values_of_run s limit next i j a b (omega (arith, next_is))) ∙ ap (λ (n : ℕ). values_between s n next) limit_is ∙ ap (values_between s (grid.start + k * grid.step)) end)

-- a bucket ends where the grid does or before
pub bucket_within : (grid : Grid) (k : ℕ) → IsGrid grid → k < value_count grid → grid.start + k * grid.step + grid.step ≤ grid.end
bucket_within grid k is below =
    omega (arith, is.order, div-add-mod' (grid.end - grid.start) grid.step, mul-le (k + 1) grid.step (value_count grid) grid.step (omega arith) (omega arith))

-- values on a grid are a series
pub gridded_is : (name path : List ℕ) (grid : Grid) (values : List (Option ℤ)) → IsGrid grid → grid.end ≤ latest_end → length values ≡ value_count grid
    → IsSeries (record { name = name; path = path; start = grid.start; step = grid.step; values = values })
gridded_is name path grid values is early many = record {
  some = is.some;
  few = omega (arith, many, is.few);
  early = omega (arith, ap (λ (n : ℕ). n * grid.step) many, div-add-mod' (grid.end - grid.start) grid.step, is.whole, is.order, early);
}

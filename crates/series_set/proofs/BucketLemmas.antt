-- The value of a series in one bucket.
use Rattle.std.proofs.Common.{◌≡◌, ℕ, ℤ, ◌+◌, ◌-◌, ◌*◌, ◌<◌, ◌≤◌, ◌⊎◌, List, length, get_or, take, drop, Option, None, inl, inr, sym, ap, ◌∙◌, arith}
use Rattle.std.proofs.lemmas.Bool.{cases_lt}
use Rattle.std.proofs.lemmas.List.{get_or_past}
use Rattle.std.proofs.lemmas.Nat.{mul-le}
use Rattle.series_set.specs.declared.grid.Grid.{Grid}
use Rattle.series_set.specs.Series.{SeriesValue, end_of}
use Rattle.series_set.specs.Average.{average, known}
use Rattle.series_set.specs.OnGrid.{IsPlaceOf, bucket_value}
use Rattle.series_set.proofs.OwnGridLemmas.{average_of_one, run_of_one}
use Rattle.series_set.proofs.PlaceLemmas.{bucket_of_run}

-- all values come before a moment at which the series has ended, and none before one at which it has not begun
place_behind : (s : SeriesValue) (moment : ℕ) → 1 ≤ s.step → end_of s ≤ moment → IsPlaceOf s moment (length s.values)
place_behind s moment some ended = record {
  within = omega arith;
  before = λ k below. omega (arith, mul-le (k + 1) s.step (length s.values) s.step (omega arith) (omega arith), some, ended);
  behind = λ k above within. absurd (omega arith);
}

place_before : (s : SeriesValue) (moment : ℕ) → moment ≤ s.start → IsPlaceOf s moment 0
place_before s moment early = record {
  within = omega arith;
  before = λ k below. absurd (omega arith);
  behind = λ k above within. omega (arith, early);
}

average_of_none : (values : List (Option ℤ)) (i : ℕ) → average (known (take (i - i) (drop i values))) ≡ None
unfolding average
average_of_none values i = ap (λ (n : ℕ). average (known (take n (drop i values)))) (let none : i - i ≡ 0 = omega arith in none)

-- where both ends of a bucket have one place
empty_bucket : (s : SeriesValue) (grid : Grid) (k from until i : ℕ) → IsPlaceOf s from i → IsPlaceOf s until i → from ≡ grid.start + k * grid.step → until ≡ from + grid.step → None ≡ bucket_value s grid k
empty_bucket s grid k from until i a b from_is until_is =
    sym (average_of_none s.values i) ∙ bucket_of_run s grid k from until i i a b from_is until_is

pub bucket_behind : (s : SeriesValue) (grid : Grid) (k from until : ℕ) → 1 ≤ s.step → end_of s ≤ from → from ≡ grid.start + k * grid.step → until ≡ from + grid.step → None ≡ bucket_value s grid k
bucket_behind s grid k from until some ended from_is until_is =
    empty_bucket s grid k from until (length s.values) (place_behind s from some ended) (place_behind s until some (omega (arith, ended, until_is))) from_is until_is

pub bucket_before : (s : SeriesValue) (grid : Grid) (k from until : ℕ) → until ≤ s.start → from ≡ grid.start + k * grid.step → until ≡ from + grid.step → None ≡ bucket_value s grid k
bucket_before s grid k from until early from_is until_is =
    empty_bucket s grid k from until 0 (place_before s from (omega (arith, early, until_is))) (place_before s until early) from_is until_is

-- ---- buckets as long as a step

-- one value more comes before a moment that is a step later
place_after_step : (s : SeriesValue) (from i : ℕ) → IsPlaceOf s from i → i < length s.values → s.start < from + s.step → IsPlaceOf s (from + s.step) (i + 1)
place_after_step s from i is within begun = record {
  within = omega (arith, within);
  before = λ k below. by k below (cases_lt 0 k);
  behind = λ k above inside. omega (arith, is.behind i (omega arith) within, mul-le (i + 1) s.step k s.step above (omega arith));
}
  where
    by : (k : ℕ) → k < i + 1 → (0 < k) ⊎ (k ≤ 0) → s.start + k * s.step < from + s.step
    by k below (inl some) = omega (arith, is.before (k - 1) (omega arith), mul-le k s.step ((k - 1) + 1) s.step (omega arith) (omega arith))
    by k below (inr none) = omega (arith, begun, mul-le k s.step 0 s.step none (omega arith))

place_at_end : (s : SeriesValue) (from until i : ℕ) → IsPlaceOf s from i → length s.values ≤ i → from ≤ until → IsPlaceOf s until i
place_at_end s from until i is all order = record {
  within = is.within;
  before = λ k below. omega (arith, is.before k below, order);
  behind = λ k above within. absurd (omega arith);
}

-- the value of such a bucket is the first from its begin on
pub bucket_of_step : (s : SeriesValue) (grid : Grid) (k from until i : ℕ) → IsPlaceOf s from i → s.step ≡ grid.step → s.start < until → from ≡ grid.start + k * grid.step → until ≡ from + grid.step → get_or s.values i None ≡ bucket_value s grid k
bucket_of_step s grid k from until i is same begun from_is until_is =
    elim (cases_lt i (length s.values)) [
      | inl within ↦
          sym (average_of_one (get_or s.values i None))
          ∙ ap (λ values. average (known values)) (sym (run_of_one s.values i within))
          ∙ bucket_of_run s grid k from (from + s.step) i (i + 1) is (place_after_step s from i is within (omega (arith, begun, until_is, same))) from_is (omega (arith, same))
      | inr all ↦ get_or_past s.values i None all ∙ empty_bucket s grid k from until i is (place_at_end s from until i is all (omega (arith, until_is))) from_is until_is
    ]

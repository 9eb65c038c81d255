-- A series on its own grid.
use Rattle.std.proofs.Common.{◌≡◌, ℕ, ℤ, pos, negsuc, ◌+◌, ◌-◌, ◌*◌, ◌+ℤ◌, ◌<◌, ◌≤◌, true, List, [], ◌∷◌, length, get_or, take, drop, map, Option, Some, None, refl, sym, ap, ◌∙◌, arith}
use Rattle.std.specs.Int.{int_div_euclid}
use Rattle.std.specs.List.{range_with_len}
use Rattle.std.proofs.Math.Nat.{div-one}
use Rattle.std.proofs.lemmas.Int.{ints}
use Rattle.std.proofs.lemmas.List.{drop_more}
use Rattle.std.proofs.lemmas.List.FromFn.{fill_by_all}
use Rattle.std.proofs.lemmas.Nat.{mul-le}
use Rattle.series_set.specs.declared.grid.Grid.{Grid}
use Rattle.series_set.specs.Series.{SeriesValue, moment_at}
use Rattle.series_set.specs.Average.{average, known, sum_of}
use Rattle.series_set.specs.CommonGrid.{has_grid, value_count}
use Rattle.series_set.specs.OnGrid.{IsPlaceOf, bucket_value, on_grid}
use Rattle.series_set.proofs.GridLemmas.{Agrees, agrees, count_agreed}
use Rattle.series_set.proofs.PlaceLemmas.{bucket_of_run}

-- the average of one value is that value
over_one : (z : ℤ) → int_div_euclid z (pos 1) ≡ z
over_one (pos a) = ap pos (div-one a)
over_one (negsuc a) = ap negsuc (div-one a)

nothing_and : (z : ℤ) → pos 0 +ℤ z ≡ z
nothing_and z = omega (arith, ints)

pub average_of_one : (value : Option ℤ) → average (known (value ∷ [])) ≡ value
unfolding average sum_of
average_of_one None = refl
average_of_one (Some z) = ap (λ (y : ℤ). Some y) (ap (λ (y : ℤ). int_div_euclid y (pos 1)) (nothing_and z) ∙ over_one z)

-- as many values come before a value's own moment as before it
own_place : (s : SeriesValue) (k : ℕ) → 1 ≤ s.step → k ≤ length s.values → IsPlaceOf s (moment_at s k) k
own_place s k some within = record {
  within = within;
  before = λ j below. omega (arith, mul-le (j + 1) s.step k s.step (omega arith) (omega arith), some);
  behind = λ j above inside. omega (arith, mul-le k s.step j s.step above (omega arith));
}

pub run_of_one : (values : List (Option ℤ)) (k : ℕ) → k < length values → take ((k + 1) - k) (drop k values) ≡ get_or values k None ∷ []
run_of_one values k within =
    ap (λ (n : ℕ). take n (drop k values)) (let one : (k + 1) - k ≡ 1 = omega arith in one) ∙ ap (take 1) (drop_more values k None within)

own_bucket : (s : SeriesValue) (grid : Grid) (k : ℕ) → 1 ≤ s.step → Agrees grid s → k < length s.values → bucket_value s grid k ≡ get_or s.values k None
own_bucket s grid k some same within =
    sym (bucket_of_run s grid k (moment_at s k) (moment_at s (k + 1)) k (k + 1) (own_place s k some (omega arith)) (own_place s (k + 1) some (omega arith))
    (omega (arith, same.start, ap (λ (n : ℕ). k * n) same.step)) (omega (arith, same.step)))
    ∙ ap (λ values. average (known values)) (run_of_one s.values k within) ∙ average_of_one (get_or s.values k None)

same_series : (s : SeriesValue) (start step : ℕ) (values : List (Option ℤ)) → start ≡ s.start → step ≡ s.step → values ≡ s.values → record s { start = start; step = step; values = values } ≡ s
same_series s start step values starts steps holds =
    ap (λ (n : ℕ). record s { start = n; step = step; values = values }) starts
    ∙ ap (λ (n : ℕ). record s { step = n; values = values }) steps
    ∙ ap (λ (vs : List (Option ℤ)). record s { values = vs }) holds

pub own_grid_stays : (s : SeriesValue) (grid : Grid) → 1 ≤ s.step → has_grid grid s ≡ true → on_grid s grid ≡ s
unfolding on_grid
own_grid_stays s grid some is =
    let same = agrees grid s is in
    let count = count_agreed grid s some same in
    let values : map (bucket_value s grid) (range_with_len 0 (value_count grid)) ≡ s.values =
    sym (fill_by_all (bucket_value s grid) s.values (value_count grid) None (sym count) (λ k below. sym (own_bucket s grid k some same (omega (arith, count))))) in
    same_series s grid.start grid.step (map (bucket_value s grid) (range_with_len 0 (value_count grid))) (sym same.start) (sym same.step) values

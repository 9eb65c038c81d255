-- Buckets of summaries.
use Rattle.std.proofs.Common.{◌≡◌, ℕ, ℤ, ◌+◌, ◌-◌, ◌*◌, ◌≤◌, List, length, take, drop, Option, sym, ap, ◌∙◌, arith, length-take, length-drop}
use Rattle.series_set.specs.declared.grid.Grid.{Grid}
use Rattle.series_set.specs.Series.{SeriesValue}
use Rattle.series_set.specs.Average.{known}
use Rattle.series_set.specs.OnGrid.{IsPlaceOf, values_between}
use Rattle.series_set.proofs.PlaceLemmas.{values_of_run}
use Rattle.series_funcs.specs.declared.kinds.Gather.{Gather}
use Rattle.series_funcs.specs.Combined.{gathered}
use Rattle.series_funcs.specs.Moved.{method_of, summary_at}
use Rattle.series_funcs.proofs.ColumnLemmas.{length-known}

pub summary_of_run : (gather : Gather) (s : SeriesValue) (grid : Grid) (k limit next i j : ℕ) → IsPlaceOf s limit i → IsPlaceOf s next j → limit ≡ grid.start + k * grid.step → next ≡ limit + grid.step
    → gathered (method_of gather) (known (take (j - i) (drop i s.values))) ≡ summary_at gather s grid k
unfolding summary_at
summary_of_run gather s grid k limit next i j a b limit_is next_is =
    let end : next ≡ grid.start + (k + 1) * grid.step = omega (arith, limit_is, next_is) in
    ap (λ (values : List (Option ℤ)). gathered (method_of gather) (known values)) (sym (values_of_run s limit next i j a b (omega (arith, next_is))) ∙ ap (λ (n : ℕ). values_between s n next) limit_is ∙ ap (values_between s (grid.start + k * grid.step)) end)

pub length-run : (values : List (Option ℤ)) (i j : ℕ) → length (known (take (j - i) (drop i values))) ≤ length values
length-run values i j = omega (arith, length-known (take (j - i) (drop i values)), length-take (j - i) (drop i values), length-drop i values)

-- What series have together, moment by moment.
use Rattle.std.specs.Prelude.{ℕ, ℤ, ◌-ℤ◌, ◌-◌, ◌≤◌, ◌==◌, List, [], ◌∷◌, All, length, map, Option, Some, None, Result, Ok, if◌then◌else◌}
use Rattle.std.specs.List.{fold, range_with_len, slice_index_or}
use Rattle.std.specs.Option.{option_and_then}
use Rattle.std.specs.Result.{result_map_both}
use Rattle.ring_format.specs.declared.archive.Method.{Method}
use Rattle.ring_format.specs.declared.archive.Method.TheVariants as method
use Rattle.rollup.specs.Rollup.{rolled}
use Rattle.series_set.specs.declared.grid.Grid.{Grid}
use Rattle.series_set.specs.declared.grid.EvalFault.{EvalFault}
use Rattle.series_set.specs.Series.{SeriesValue, end_of, latest_end, widest_step}
use Rattle.series_set.specs.Average.{known}
use Rattle.series_set.specs.CommonGrid.{EndsSoonAfter, common_grid, value_count}
use Rattle.series_set.specs.OnGrid.{on_grid}
use Rattle.series_funcs.specs.declared.kinds.Combine.{Combine}
use Rattle.series_funcs.specs.declared.kinds.Combine.TheVariants.{Sum, Average, Min, Max, Range, Diff, Multiply}
use Rattle.series_funcs.specs.Quotients.{times}
use Rattle.fixed_num.specs.Milli.{value_of}

-- ---- at one moment

-- what a method of a rollup makes of known values, of which none is left out
abbrev pub gathered : Method → List ℤ → Option ℤ
gathered method known = rolled method known (length known)

-- the greatest less the least
unfoldable pub spread : List ℤ → Option ℤ
spread known = option_and_then (λ most. option_and_then (λ least. value_of (most -ℤ least)) (gathered method.Min known)) (gathered method.Max known)

-- the first less each other one
unfoldable pub difference : List ℤ → Option ℤ
difference [] = None
difference (first ∷ others) = value_of (fold ◌-ℤ◌ first others)

-- one factor more; none from a product that does not fit
abbrev pub times_next : Option ℤ → ℤ → Option ℤ
times_next product factor = option_and_then (λ p. times p factor) product

-- the product from the first on
unfoldable pub product : List ℤ → Option ℤ
product [] = None
product (first ∷ others) = fold times_next (Some first) others

-- what values have together of which these are known
unfoldable pub combined_known : Combine → List ℤ → ℕ → Option ℤ
combined_known Sum known all = gathered method.Sum known
combined_known Average known all = gathered method.Average known
combined_known Min known all = gathered method.Min known
combined_known Max known all = gathered method.Max known
combined_known Range known all = spread known
combined_known Diff known all = difference known
combined_known Multiply known all = if length known == all then product known else None

-- what the values of series at one moment have together
abbrev pub combined : Combine → List (Option ℤ) → Option ℤ
combined kind values = combined_known kind (known values) (length values)

-- ---- on a grid

-- the value at a place, from 0 on; missing behind the last
abbrev pub value_at : ℕ → SeriesValue → Option ℤ
value_at place s = slice_index_or s.values place None

-- the values of series at one place
abbrev pub column : List SeriesValue → ℕ → List (Option ℤ)
column set place = map (value_at place) set

-- what series have together at each of so many places
unfoldable pub combined_columns : Combine → List SeriesValue → ℕ → List (Option ℤ)
combined_columns kind set count = map (λ place. combined kind (column set place)) (range_with_len 0 count)

abbrev pub all_on : List SeriesValue → Grid → List SeriesValue
all_on set grid = map (λ s. on_grid s grid) set

-- what series have together on a grid
unfoldable pub combined_on : Combine → List SeriesValue → List ℕ → List ℕ → Grid → SeriesValue
combined_on kind set name path grid = record {
  name = name;
  path = path;
  start = grid.start;
  step = grid.step;
  values = combined_columns kind (all_on set grid) (value_count grid);
}

-- what series have together on their common grid, or why they have none
unfoldable pub combined_series : Combine → List SeriesValue → List ℕ → List ℕ → Result SeriesValue EvalFault
combined_series kind set name path = result_map_both (combined_on kind set name path) (λ fault. fault) (common_grid set)

-- one series; none of no series
unfoldable pub combine : Combine → List SeriesValue → List ℕ → List ℕ → Result (List SeriesValue) EvalFault
combine kind [] name path = Ok []
combine kind (s ∷ set) name path = result_map_both (λ together. together ∷ []) (λ fault. fault) (combined_series kind (s ∷ set) name path)

-- ---- which series

-- the most series that are combined at once
abbrev pub most_series : ℕ
most_series = 10000

-- series that may be brought to a common grid: it ends less than the widest step behind them
pub record AreCombinable (set : List SeriesValue) : Type 0 where
  pub few : length set ≤ most_series
  pub short : All (λ s. s.step ≤ widest_step) set
  pub early : All (λ s. end_of s ≤ latest_end - widest_step) set

-- a series from such: it may be combined too, and ends less than the widest step after them
pub record IsSoonAfter (set : List SeriesValue) (s : SeriesValue) : Type 0 where
  pub short : s.step ≤ widest_step
  pub soon : EndsSoonAfter set (end_of s)

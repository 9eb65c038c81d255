-- A series on a grid.
use Rattle.std.specs.Prelude.{ℕ, ℤ, ◌+◌, ◌*◌, ◌<◌, ◌≤◌, Bool, ◌&&◌, nat_lt, nat_le, List, [], ◌∷◌, filter, length, map, Option}
use Rattle.std.specs.List.{range_with_len}
use Rattle.series_set.specs.declared.grid.Grid.{Grid}
use Rattle.series_set.specs.Series.{SeriesValue, moment_at}
use Rattle.series_set.specs.Average.{average, known}
use Rattle.series_set.specs.CommonGrid.{value_count}

-- the values of a series, each with its moment: the first and the step are given
abbrev pub points_from : ℕ → ℕ → List (Option ℤ) → List (ℕ × Option ℤ)
points_from first step [] = []
points_from first step (value ∷ values) = (first, value) ∷ points_from (first + step) step values

-- whether a point's moment lies in the bucket from a moment on and before another
abbrev pub is_between : ℕ → ℕ → ℕ × Option ℤ → Bool
is_between from until point = nat_le from point.0 && nat_lt point.0 until

-- the values whose moments lie in a bucket
unfoldable pub values_between : SeriesValue → ℕ → ℕ → List (Option ℤ)
values_between s from until = map (λ point. point.1) (filter (is_between from until) (points_from s.start s.step s.values))

-- the average of the known values in a bucket
unfoldable pub bucket_value : SeriesValue → Grid → ℕ → Option ℤ
bucket_value s grid k = average (known (values_between s (grid.start + k * grid.step) (grid.start + (k + 1) * grid.step)))

-- the series on a grid: each bucket has the average of its known values, and misses one where it has none
unfoldable pub on_grid : SeriesValue → Grid → SeriesValue
on_grid s grid = record s { start = grid.start; step = grid.step; values = map (bucket_value s grid) (range_with_len 0 (value_count grid)) }

-- how many values of a series come before a moment
pub record IsPlaceOf (s : SeriesValue) (moment place : ℕ) : Type 0 where
  pub within : place ≤ length s.values
  pub before : (k : ℕ) → k < place → moment_at s k < moment
  pub behind : (k : ℕ) → place ≤ k → k < length s.values → moment ≤ moment_at s k

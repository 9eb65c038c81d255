-- The series that are found for needs, and how many there may be.
use Rattle.std.specs.Prelude.{ℕ, ◌≤◌, List, [], ◌∷◌, ◌++◌, All, length}
use Rattle.series_set.specs.Series.{SeriesValue, end_of, widest_step}
use Rattle.series_funcs.specs.Combined.{most_series}

-- lists of series, one for each need or each argument
abbrev pub Rows : Type 0
Rows = List (List SeriesValue)

-- all series of several lists, in order
abbrev pub concat : Rows → List SeriesValue
concat [] = []
concat (set ∷ sets) = set ++ concat sets

-- the latest end of a series that is evaluated, before any call moves it
abbrev pub latest_row_end : ℕ
latest_row_end = 5000000000

-- a series of the narrow steps that may be combined, which ends so early
pub record IsEarly (by : ℕ) (s : SeriesValue) : Type 0 where
  pub short : s.step ≤ widest_step
  pub early : end_of s ≤ by

-- Lists of series that may be evaluated: few series in all, none of a wide step or a late end.
pub record AreRows (rows : Rows) : Type 0 where
  pub few : length (concat rows) ≤ most_series
  pub early : All (IsEarly latest_row_end) (concat rows)

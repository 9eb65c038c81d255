-- How many series the values of targets have, and when these end.
use Rattle.std.specs.Prelude.{ℕ, ◌+◌, ◌*◌, ◌≤◌, List, All, length}
use Rattle.series_set.specs.Series.{SeriesValue}
use Rattle.series_funcs.specs.Combined.{most_series}
use Rattle.target_parse.specs.Bytes.{most_depth}
use Rattle.time_range.specs.SpanOf.{latest}
use Rattle.render_need.specs.Rows.{Rows, concat}
pub use Rattle.render_need.specs.Rows.{AreRows, IsEarly, latest_row_end}

-- a call moves an end by less than the longest shift: so late a series ends in calls that nest so
-- deep
unfoldable pub end_within : ℕ → ℕ
end_within levels = latest_row_end + levels * latest

-- series made of the first of some rows, of which others are left: there are no more than were
-- taken, and they end so early
pub record AreMadeOf (rows left : Rows) (by : ℕ) (set : List SeriesValue) : Type 0 where
  pub few : length set + length (concat left) ≤ length (concat rows)
  pub early : All (IsEarly by) set

-- so late ends no series of which something is made
unfoldable pub greatest_end : ℕ
greatest_end = latest_row_end + most_depth * latest

-- Series of which something is made: not too many, and none ends too late.
pub record AreLimited (set : List SeriesValue) : Type 0 where
  pub few : length set ≤ most_series
  pub early : All (IsEarly greatest_end) set

-- series made of others by one call: no more of them, and none ends later than by the longest shift
pub record IsMade (others set : List SeriesValue) : Type 0 where
  pub few : length set ≤ length others
  pub soon : (by : ℕ) → All (IsEarly by) others → All (IsEarly (by + latest)) set

-- the latest end of a series whose moments have dates, as those of comma-separated values
abbrev pub latest_csv_end : ℕ
latest_csv_end = 253402207200

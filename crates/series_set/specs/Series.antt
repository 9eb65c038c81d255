-- A series: values of neighbouring moments, a step apart.
use Rattle.std.specs.Prelude.{ℕ, ℤ, ◌+◌, ◌*◌, ◌^◌, ◌≤◌, List, length, Option}

-- What contracts see of a series: its name and path, the moment of its first value, the seconds from one value to the next, and the
-- values in thousandths, none where one is missing.
pub record SeriesValue : Type 0 where
  pub name : List ℕ
  pub path : List ℕ
  pub start : ℕ
  pub step : ℕ
  pub values : List (Option ℤ)

-- the most values of a series or a grid, and the latest moment at which a series ends
abbrev pub most_values : ℕ
most_values = 4000000

abbrev pub latest_end : ℕ
latest_end = 2 ^ 62

-- the widest step of series that are brought to a common grid, and of that grid: the seconds of 365 days
abbrev pub widest_step : ℕ
widest_step = 31536000

-- the moment of the value at a place, from 0 on
abbrev pub moment_at : SeriesValue → ℕ → ℕ
moment_at s place = s.start + place * s.step

-- the moment a step after the last value
abbrev pub end_of : SeriesValue → ℕ
end_of s = moment_at s (length s.values)

-- what every series meets
pub record IsSeries (s : SeriesValue) : Type 0 where
  pub some : 1 ≤ s.step
  pub few : length s.values ≤ most_values
  pub early : end_of s ≤ latest_end

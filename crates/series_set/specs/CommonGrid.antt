-- The common grid of series.
use Rattle.std.specs.Prelude.{◌≡◌, ℕ, ◌+◌, ◌-◌, ◌*◌, ◌/◌, ◌%◌, ◌==◌, ◌<◌, ◌≤◌, min, max, Bool, ◌&&◌, nat_lt, nat_le, List, [], ◌∷◌, All, map, Option, None, Result, Ok, Err, if◌then◌else◌}
use Rattle.std.specs.Int.{next_multiple_of}
use Rattle.std.specs.List.{find, fold, list_all, range_with_len, reduce}
use Rattle.std.specs.Option.{option_map_or, option_or, unwrap_or}
use Rattle.series_set.specs.declared.grid.Grid.{Grid}
use Rattle.series_set.specs.declared.grid.EvalFault.{EvalFault}
use Rattle.series_set.specs.declared.grid.EvalFault.TheVariants.{StepTooWide, TooLong}
use Rattle.series_set.specs.Series.{SeriesValue, end_of, most_values, widest_step}

-- ---- the step

-- the least common multiple: the least number above 0 that both divide
unfoldable pub lcm : ℕ → ℕ → ℕ
lcm a b = unwrap_or (find (λ n. n % a == 0 && n % b == 0) (range_with_len 1 (a * b))) 0

-- the least common multiple of all
unfoldable pub lcm_of : List ℕ → ℕ
lcm_of steps = fold lcm 1 steps

-- the least common multiples on the way, from the left: of a first number and the first step, then of that and the second, ..
abbrev pub multiples_from : ℕ → List ℕ → List ℕ
multiples_from m [] = []
multiples_from m (step ∷ steps) = lcm m step ∷ multiples_from (lcm m step) steps

abbrev pub is_too_wide : ℕ → Bool
is_too_wide step = nat_lt widest_step step

-- the first on the way that is too wide
unfoldable pub wide_multiple : List ℕ → Option ℕ
wide_multiple steps = find is_too_wide (multiples_from 1 steps)

abbrev pub steps_of : List SeriesValue → List ℕ
steps_of set = map (λ s. s.step) set

-- the first that is too wide of lists of series, from the left, each on a way of its own
abbrev pub first_wide : List (List SeriesValue) → Option ℕ
first_wide [] = None
first_wide (set ∷ sets) = option_or (wide_multiple (steps_of set)) (first_wide sets)

-- the step to which series can be brought: no multiple on the way is too wide
pub record IsCommonStep (set : List SeriesValue) (step : ℕ) : Type 0 where
  pub fitting : wide_multiple (steps_of set) ≡ None
  pub multiple : step ≡ lcm_of (steps_of set)
  pub some : 1 ≤ step
  pub short : step ≤ widest_step

-- ---- the ends

abbrev pub least_start : List SeriesValue → ℕ
least_start set = unwrap_or (reduce min (map (λ s. s.start) set)) 0

abbrev pub greatest_end : List SeriesValue → ℕ
greatest_end set = unwrap_or (reduce max (map end_of set)) 0

-- all series from end to end, in the common step
abbrev pub hull : List SeriesValue → Grid
hull set = record { start = least_start set; end = greatest_end set; step = lcm_of (steps_of set) }

-- the start rounded down and the end rounded up to a multiple of the step
abbrev pub widened : Grid → Grid
widened grid = record { start = grid.start - grid.start % grid.step; end = next_multiple_of grid.end grid.step; step = grid.step }

-- whether a series has this start, end and step
abbrev pub has_grid : Grid → SeriesValue → Bool
has_grid grid s = s.start == grid.start && (end_of s == grid.end && s.step == grid.step)

-- Where all series agree in start, end and step, that is the grid, also where its ends are no multiples of the step.
unfoldable pub grid_of : List SeriesValue → Grid
grid_of set = if list_all (has_grid (hull set)) set then hull set else widened (hull set)

-- ---- the grid, or why there is none

-- how many values a series on the grid has
abbrev pub value_count : Grid → ℕ
value_count grid = (grid.end - grid.start) / grid.step

abbrev pub short_grid : Grid → Result Grid EvalFault
short_grid grid = if nat_le (value_count grid) most_values then Ok grid else Err (TooLong (value_count grid))

unfoldable pub common_grid : List SeriesValue → Result Grid EvalFault
common_grid set = option_map_or (λ m. Err (StepTooWide m)) (wide_multiple (steps_of set)) (short_grid (grid_of set))

-- ---- grids

-- a step, and ends that are whole steps apart
pub record IsWhole (grid : Grid) : Type 0 where
  pub some : 1 ≤ grid.step
  pub order : grid.start ≤ grid.end
  pub whole : (grid.end - grid.start) % grid.step ≡ 0

-- a grid to which series can be brought
pub record IsGrid (grid : Grid) : Type 0 where
  pub some : 1 ≤ grid.step
  pub order : grid.start ≤ grid.end
  pub whole : (grid.end - grid.start) % grid.step ≡ 0
  pub few : value_count grid ≤ most_values

-- less than the widest step after any moment by which all series have ended
abbrev pub EndsSoonAfter : List SeriesValue → ℕ → Type 0
EndsSoonAfter set end = (by : ℕ) → All (λ s. end_of s ≤ by) set → end < by + widest_step

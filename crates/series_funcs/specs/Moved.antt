-- The functions that move a series to other moments, and all functions of each series by itself.
use Rattle.std.specs.Prelude.{ℕ, ◌+◌, ◌-◌, ◌*◌, ◌≤◌, ℤ, Bool, ◌||◌, nat_le, List, All, filter, map, Option, Result, Ok, if◌then◌else◌, ⊤}
use Rattle.std.specs.List.{range_with_len}
use Rattle.std.specs.Result.{result_map_both}
use Rattle.ring_format.specs.declared.archive.Method.{Method}
use Rattle.ring_format.specs.declared.archive.Method.TheVariants as method
use Rattle.series_set.specs.declared.grid.Grid.{Grid}
use Rattle.series_set.specs.declared.grid.EvalFault.{EvalFault}
use Rattle.series_set.specs.Series.{SeriesValue, end_of, widest_step}
use Rattle.series_set.specs.Average.{known}
use Rattle.series_set.specs.CommonGrid.{short_grid, value_count, widened}
use Rattle.series_set.specs.OnGrid.{values_between}
use Rattle.series_funcs.specs.declared.kinds.Gather.{Gather}
use Rattle.series_funcs.specs.declared.kinds.Gather.TheVariants.{Sum, Average, Max, Min, Last}
use Rattle.series_funcs.specs.declared.kinds.Shape.{Shape}
use Rattle.series_funcs.specs.declared.kinds.Shape.TheVariants.{Summarize, TimeShift}
use Rattle.series_funcs.specs.Combined.{gathered}
use Rattle.series_funcs.specs.Each.{each_of}
use Rattle.series_funcs.specs.Named.{call_text}
use Rattle.series_funcs.specs.Shaped.{shaped_series}

-- ---- summaries

abbrev pub method_of : Gather → Method
method_of Sum = method.Sum
method_of Average = method.Average
method_of Max = method.Max
method_of Min = method.Min
method_of Last = method.Last

-- what the known values of a bucket give
unfoldable pub summary_at : Gather → SeriesValue → Grid → ℕ → Option ℤ
summary_at gather s grid k = gathered (method_of gather) (known (values_between s (grid.start + k * grid.step) (grid.start + (k + 1) * grid.step)))

-- the buckets of so many seconds that hold a series: they begin and end at multiples of them
abbrev pub summary_grid : ℕ → SeriesValue → Grid
summary_grid step s = widened (record { start = s.start; end = end_of s; step = step })

unfoldable pub summary_on : Gather → List ℕ → List ℕ → SeriesValue → Grid → SeriesValue
summary_on gather function tail s grid = record {
  name = call_text function s.name tail;
  path = s.path;
  start = grid.start;
  step = grid.step;
  values = map (summary_at gather s grid) (range_with_len 0 (value_count grid));
}

-- the summary of a series, or that it has too many buckets
unfoldable pub summarized : ℕ → Gather → List ℕ → List ℕ → SeriesValue → Result SeriesValue EvalFault
summarized step gather function tail s = result_map_both (summary_on gather function tail s) (λ fault. fault) (short_grid (summary_grid step s))

-- ---- shifts

-- a series is left out that would begin before the first moment
abbrev pub stays : Bool → ℕ → SeriesValue → Bool
stays past seconds s = past || nat_le seconds s.start

-- what was asked for earlier is moved to later, and the other way round
abbrev pub moved_start : Bool → ℕ → ℕ → ℕ
moved_start past seconds start = if past then start + seconds else start - seconds

-- how many seconds later it ends
abbrev pub later_by : Bool → ℕ → ℕ
later_by past seconds = if past then seconds else 0

unfoldable pub shifted : Bool → ℕ → List ℕ → List ℕ → SeriesValue → SeriesValue
shifted past seconds function tail s = record s { name = call_text function s.name tail; start = moved_start past seconds s.start }

-- ---- all functions of each series by itself

unfoldable pub shape : Shape → List ℕ → List ℕ → List SeriesValue → Result (List SeriesValue) EvalFault
shape (Summarize step gather) function tail set = each_of (summarized step gather function tail) set
shape (TimeShift past seconds) function tail set = Ok (map (shifted past seconds function tail) (filter (stays past seconds) set))
shape kind function tail set = Ok (map (shaped_series kind function tail) set)

-- ---- which series

-- how many seconds later than before a series may end
abbrev pub lateness : Shape → ℕ
lateness (Summarize step gather) = step
lateness (TimeShift past seconds) = later_by past seconds
lateness _ = 0

-- steps of summaries
abbrev pub IsSummaryStep : ℕ → Type 0
IsSummaryStep step = (1 ≤ step) × (step ≤ widest_step)

abbrev pub HasStep : Shape → Type 0
HasStep (Summarize step gather) = IsSummaryStep step
HasStep _ = ⊤

-- a series from others, which ends at most so much later than all of these, and has no wider step than series to be combined may have
-- where they have none
pub record IsSoLate (set : List SeriesValue) (late : ℕ) (s : SeriesValue) : Type 0 where
  pub short : All (λ s. s.step ≤ widest_step) set → s.step ≤ widest_step
  pub soon : (by : ℕ) → All (λ s. end_of s ≤ by) set → end_of s ≤ by + late

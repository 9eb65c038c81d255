-- Measures of series, and what they say of them.
use Rattle.std.specs.Prelude.{ℤ, int_lt, Bool, true, false, not, List, length, Option, Some, None, ◌==◌, if◌then◌else◌}
use Rattle.std.specs.Int.{int_max, int_min}
use Rattle.std.specs.List.{last_or, list_any, reduce}
use Rattle.std.specs.Option.{option_map_or}
use Rattle.std.specs.Prelude.{is_some}
use Rattle.series_set.specs.Series.{SeriesValue}
use Rattle.series_set.specs.Average.{average, known, sum_of}
use Rattle.series_pick.specs.declared.measures.Measure.{Measure}
use Rattle.series_pick.specs.declared.measures.Measure.TheVariants.{Max, Min, Current, Average, Total}
use Rattle.series_pick.specs.declared.measures.Side.{Side}
use Rattle.series_pick.specs.declared.measures.Side.TheVariants.{Above, Below}
use Rattle.series_pick.specs.declared.measures.First.{First}
use Rattle.series_pick.specs.declared.measures.First.TheVariants.{Greatest, Least}

-- ---- one series

-- the exact sum; none of no values
abbrev pub total : List ℤ → Option ℤ
total values = if length values == 0 then None else Some (sum_of values)

-- a measure of known values; none of no values
abbrev pub measured : Measure → List ℤ → Option ℤ
measured Max values = reduce int_max values
measured Min values = reduce int_min values
measured Current values = last_or None values
measured Average values = average values
measured Total values = total values

unfoldable pub measure_of : Measure → SeriesValue → Option ℤ
measure_of measure s = measured measure (known s.values)

-- ---- a bound

-- above is more than the bound, below at most the bound
abbrev pub is_on_side : Side → ℤ → ℤ → Bool
is_on_side Above bound number = int_lt bound number
is_on_side Below bound number = not (int_lt bound number)

-- whether a series has a measure that is on this side of a bound
unfoldable pub is_beside : Measure → Side → ℤ → SeriesValue → Bool
is_beside measure side bound s = option_map_or (is_on_side side bound) (measure_of measure s) false

-- whether a value of the series is known
abbrev pub has_known : SeriesValue → Bool
has_known s = list_any is_some s.values

-- ---- an order

-- which of two numbers comes first
abbrev pub is_before : First → ℤ → ℤ → Bool
is_before Greatest a b = int_lt b a
is_before Least a b = int_lt a b

-- which of two measures comes first: one that there is before one that there is not
abbrev pub precedes : First → Option ℤ → Option ℤ → Bool
precedes first (Some a) (Some b) = is_before first a b
precedes first (Some a) None = true
precedes first None other = false

-- whether a series comes before another by their measures
abbrev pub by_measure : Measure → First → SeriesValue → SeriesValue → Bool
by_measure measure first s other = precedes first (measure_of measure s) (measure_of measure other)

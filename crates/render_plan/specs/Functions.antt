-- The functions of the render language: their names, and the arguments that they take.
use Rattle.std.specs.Prelude.{ℕ, Bool, List, [], ◌∷◌, ◌++◌, codes, Option}
use Rattle.std.specs.List.{find, list_any}
use Rattle.std.specs.Option.{option_map_or}
use Rattle.std.specs.Str.{bytes_eq}
use Rattle.series_funcs.specs.declared.kinds.Combine.TheVariants as combine
use Rattle.render_plan.specs.declared.function.Kind.TheVariants.{Series, Count, Value, Factor, Span, Step, Gather, False, Node, Place, Combine as Together, Text}
use Rattle.render_plan.specs.declared.function.Line.{Line}
use Rattle.render_plan.specs.declared.function.Takes.{Takes}
use Rattle.render_plan.specs.declared.function.Takes.TheVariants.{One, Maybe, Any}
use Rattle.render_plan.specs.declared.function.Function.{Function}
use Rattle.render_plan.specs.declared.function.Function.TheVariants.{Combine, Divide, Group, Fallback, Shape, Choose, Regroup}
use Rattle.render_plan.specs.declared.function.Shaping.TheVariants as shapings
use Rattle.render_plan.specs.declared.function.Choosing.TheVariants as choices
use Rattle.render_plan.specs.declared.function.Plain.TheVariants as plains
use Rattle.render_plan.specs.declared.function.First.TheVariants as firsts
use Rattle.render_plan.specs.declared.function.Beside.TheVariants as sides
use Rattle.render_plan.specs.declared.function.Match.TheVariants as matches
use Rattle.render_plan.specs.declared.function.Regrouping.TheVariants as groupings

-- A row of the table: the names of a function, what it makes of its series, and the arguments that
-- it takes, in order.
pub record Row : Type 0 where
  pub names : List (List ℕ)
  pub function : Function
  pub takes : List Takes

abbrev pub row : List (List ℕ) → Function → List Takes → Row
row names function takes = record { names = names; function = function; takes = takes }

-- one or more series
abbrev pub all_series : List Takes
all_series = One Series ∷ Any Series ∷ []

-- functions that combine all series of their arguments to one
unfoldable pub combining : List Row
combining =
    row (codes "sumSeries" ∷ codes "sum" ∷ []) (Combine combine.Sum) all_series
    ∷ row (codes "averageSeries" ∷ codes "avg" ∷ []) (Combine combine.Average) all_series
    ∷ row (codes "minSeries" ∷ []) (Combine combine.Min) all_series
    ∷ row (codes "maxSeries" ∷ []) (Combine combine.Max) all_series
    ∷ row (codes "rangeOfSeries" ∷ []) (Combine combine.Range) all_series
    ∷ row (codes "diffSeries" ∷ []) (Combine combine.Diff) all_series
    ∷ row (codes "multiplySeries" ∷ []) (Combine combine.Multiply) all_series
    ∷ row (codes "divideSeries" ∷ []) Divide (One Series ∷ One Series ∷ [])
    ∷ []

-- functions that choose among the series of several arguments
unfoldable pub joining : List Row
joining =
    row (codes "group" ∷ []) Group all_series
    ∷ row (codes "fallbackSeries" ∷ []) Fallback (One Series ∷ One Series ∷ [])
    ∷ []

-- functions of each series by itself
unfoldable pub shaping : List Row
shaping =
    row (codes "absolute" ∷ []) (Shape shapings.Absolute) (One Series ∷ [])
    ∷ row (codes "scale" ∷ []) (Shape shapings.Scale) (One Series ∷ One Factor ∷ [])
    ∷ row (codes "offset" ∷ []) (Shape shapings.Offset) (One Series ∷ One Value ∷ [])
    ∷ row (codes "offsetToZero" ∷ []) (Shape shapings.OffsetToZero) (One Series ∷ [])
    ∷ row (codes "derivative" ∷ []) (Shape shapings.Derivative) (One Series ∷ [])
    ∷ row (codes "nonNegativeDerivative" ∷ []) (Shape shapings.NonNegativeDerivative) (One Series ∷ [])
    ∷ row (codes "perSecond" ∷ []) (Shape shapings.PerSecond) (One Series ∷ [])
    ∷ row (codes "integral" ∷ []) (Shape shapings.Integral) (One Series ∷ [])
    ∷ row (codes "delay" ∷ []) (Shape shapings.Delay) (One Series ∷ One Count ∷ [])
    ∷ row (codes "keepLastValue" ∷ []) (Shape shapings.KeepLastValue) (One Series ∷ Maybe Count ∷ [])
    ∷ row (codes "transformNull" ∷ []) (Shape shapings.TransformNull) (One Series ∷ Maybe Value ∷ [])
    ∷ row (codes "isNonNull" ∷ []) (Shape shapings.IsNonNull) (One Series ∷ [])
    ∷ row (codes "changed" ∷ []) (Shape shapings.Changed) (One Series ∷ [])
    ∷ row (codes "removeAboveValue" ∷ []) (Shape shapings.RemoveAboveValue) (One Series ∷ One Value ∷ [])
    ∷ row (codes "removeBelowValue" ∷ []) (Shape shapings.RemoveBelowValue) (One Series ∷ One Value ∷ [])
    ∷ row (codes "scaleToSeconds" ∷ []) (Shape shapings.ScaleToSeconds) (One Series ∷ One Count ∷ [])
    ∷ row (codes "summarize" ∷ []) (Shape shapings.Summarize) (One Series ∷ One Step ∷ Maybe Gather ∷ Maybe False ∷ [])
    ∷ row (codes "timeShift" ∷ []) (Shape shapings.TimeShift) (One Series ∷ One Span ∷ [])
    ∷ []

-- functions that choose among the series of one argument
unfoldable pub choosing : List Row
choosing =
    row (codes "limit" ∷ []) (Choose (choices.First firsts.Limit)) (One Series ∷ One Count ∷ [])
    ∷ row (codes "sortByName" ∷ []) (Choose (choices.Plain plains.SortByName)) (One Series ∷ [])
    ∷ row (codes "sortByMaxima" ∷ []) (Choose (choices.Plain plains.SortByMaxima)) (One Series ∷ [])
    ∷ row (codes "sortByTotal" ∷ []) (Choose (choices.Plain plains.SortByTotal)) (One Series ∷ [])
    ∷ row (codes "sortByMinima" ∷ []) (Choose (choices.Plain plains.SortByMinima)) (One Series ∷ [])
    ∷ row (codes "highestMax" ∷ []) (Choose (choices.First firsts.HighestMax)) (One Series ∷ One Count ∷ [])
    ∷ row (codes "highestCurrent" ∷ []) (Choose (choices.First firsts.HighestCurrent)) (One Series ∷ One Count ∷ [])
    ∷ row (codes "highestAverage" ∷ []) (Choose (choices.First firsts.HighestAverage)) (One Series ∷ One Count ∷ [])
    ∷ row (codes "lowestCurrent" ∷ []) (Choose (choices.First firsts.LowestCurrent)) (One Series ∷ One Count ∷ [])
    ∷ row (codes "lowestAverage" ∷ []) (Choose (choices.First firsts.LowestAverage)) (One Series ∷ One Count ∷ [])
    ∷ row (codes "maximumAbove" ∷ []) (Choose (choices.Beside sides.MaximumAbove)) (One Series ∷ One Value ∷ [])
    ∷ row (codes "minimumAbove" ∷ []) (Choose (choices.Beside sides.MinimumAbove)) (One Series ∷ One Value ∷ [])
    ∷ row (codes "currentAbove" ∷ []) (Choose (choices.Beside sides.CurrentAbove)) (One Series ∷ One Value ∷ [])
    ∷ row (codes "averageAbove" ∷ []) (Choose (choices.Beside sides.AverageAbove)) (One Series ∷ One Value ∷ [])
    ∷ row (codes "maximumBelow" ∷ []) (Choose (choices.Beside sides.MaximumBelow)) (One Series ∷ One Value ∷ [])
    ∷ row (codes "minimumBelow" ∷ []) (Choose (choices.Beside sides.MinimumBelow)) (One Series ∷ One Value ∷ [])
    ∷ row (codes "currentBelow" ∷ []) (Choose (choices.Beside sides.CurrentBelow)) (One Series ∷ One Value ∷ [])
    ∷ row (codes "averageBelow" ∷ []) (Choose (choices.Beside sides.AverageBelow)) (One Series ∷ One Value ∷ [])
    ∷ row (codes "removeEmptySeries" ∷ []) (Choose (choices.Plain plains.RemoveEmptySeries)) (One Series ∷ [])
    ∷ row (codes "grep" ∷ []) (Choose (choices.Match matches.Grep)) (One Series ∷ One Text ∷ [])
    ∷ row (codes "exclude" ∷ []) (Choose (choices.Match matches.Exclude)) (One Series ∷ One Text ∷ [])
    ∷ []

-- functions that name series
unfoldable pub naming : List Row
naming =
    row (codes "alias" ∷ []) (Choose choices.Alias) (One Series ∷ One Text ∷ [])
    ∷ row (codes "aliasByNode" ∷ []) (Choose choices.AliasByNode) (One Series ∷ One Node ∷ Any Node ∷ [])
    ∷ row (codes "aliasSub" ∷ []) (Choose choices.AliasSub) (One Series ∷ One Text ∷ One Text ∷ [])
    ∷ row (codes "aliasByMetric" ∷ []) (Choose (choices.Plain plains.AliasByMetric)) (One Series ∷ [])
    ∷ []

-- functions that combine series by groups
unfoldable pub grouping : List Row
grouping =
    row (codes "groupByNode" ∷ []) (Regroup groupings.GroupByNode) (One Series ∷ One Node ∷ One Together ∷ [])
    ∷ row (codes "sumSeriesWithWildcards" ∷ []) (Regroup groupings.SumSeriesWithWildcards) (One Series ∷ One Place ∷ Any Place ∷ [])
    ∷ row (codes "averageSeriesWithWildcards" ∷ []) (Regroup groupings.AverageSeriesWithWildcards) (One Series ∷ One Place ∷ Any Place ∷ [])
    ∷ []

-- the table of all functions
unfoldable pub functions : List Row
functions = combining ++ (joining ++ (shaping ++ (choosing ++ (naming ++ grouping))))

abbrev pub has_name : List ℕ → Row → Bool
has_name name row = list_any (bytes_eq name) row.names

-- the row of the function with a name
unfoldable pub row_of : List ℕ → Option Row
row_of name = find (has_name name) functions

-- what the code has of it
abbrev pub row_seen : Line → Row
row_seen line = record {
  names = line.name.now ∷ option_map_or (λ alias. alias.now ∷ []) line.alias [];
  function = line.function;
  takes = line.takes.now;
}

-- Which series are left of a list, in which order and under which names.
use Rattle.std.specs.Prelude.{◌≡◌, ℕ, ℤ, Bool, not, List, filter, map, take}
use Rattle.std.specs.List.Sorted.{IsPermutation, IsSortedBy, IsStableBy}
use Rattle.std.specs.Cmp.Lexicographic.{slice_cmp}
use Rattle.std.specs.Ordering.{is_lt, nat_cmp}
use Rattle.series_set.specs.Series.{SeriesValue}
use Rattle.name_pattern.specs.Patterns.{is_found}
use Rattle.name_pattern.specs.Substitution.{substituted}
use Rattle.series_pick.specs.declared.measures.Measure.TheVariants.{Max, Min, Current, Average, Total}
use Rattle.series_pick.specs.declared.measures.Side.TheVariants.{Above, Below}
use Rattle.series_pick.specs.declared.measures.First.TheVariants.{Greatest, Least}
use Rattle.series_pick.specs.declared.matching.Keep.{Keep}
use Rattle.series_pick.specs.declared.matching.Keep.TheVariants.{Matching, Others}
use Rattle.series_pick.specs.declared.kinds.Choose.{Choose}
use Rattle.series_pick.specs.declared.kinds.Choose.TheVariants.{Alias, AliasByNode, AliasByMetric, Limit, SortByName, SortByMaxima, SortByTotal, SortByMinima, HighestMax, HighestCurrent, HighestAverage, LowestCurrent, LowestAverage, MaximumAbove, MinimumAbove, CurrentAbove, AverageAbove, MaximumBelow, MinimumBelow, CurrentBelow, AverageBelow, RemoveEmptySeries, Grep, Exclude, AliasSub}
use Rattle.series_pick.specs.Measures.{by_measure, has_known, is_beside}
use Rattle.series_pick.specs.Nodes.{last_node, name_by_nodes}

-- ---- orders

-- the same series in order: none comes before the one in front of it, and those of which neither comes before the other stay as they stood
pub record Sorts (before : SeriesValue → SeriesValue → Bool) (set sorted : List SeriesValue) : Type 0 where
  pub same : IsPermutation set sorted
  pub ordered : IsSortedBy before sorted
  pub stable : IsStableBy before set sorted

-- the first so many of the series in order
abbrev pub SelectsFirst : ℕ → (SeriesValue → SeriesValue → Bool) → List SeriesValue → List SeriesValue → Type 0
SelectsFirst most before set chosen = (sorted : List SeriesValue) × Sorts before set sorted × (chosen ≡ take most sorted)

-- whether a series' name comes before that of another, in the order of their bytes
abbrev pub by_name : SeriesValue → SeriesValue → Bool
by_name s other = is_lt (slice_cmp nat_cmp s.name other.name)

-- ---- names

abbrev pub renamed : List ℕ → SeriesValue → SeriesValue
renamed name s = record s { name = name }

abbrev pub renamed_by_nodes : List ℤ → SeriesValue → SeriesValue
renamed_by_nodes numbers s = renamed (name_by_nodes numbers s.path) s

-- under the name in which each match of a pattern is replaced
abbrev pub renamed_by_pattern : List ℕ → List ℕ → SeriesValue → SeriesValue
renamed_by_pattern pattern replacement s = renamed (substituted pattern replacement s.name) s

-- ---- matches

-- whether a series stays by whether its name has a match
abbrev pub stays : Keep → Bool → Bool
stays Matching found = found
stays Others found = not found

abbrev pub is_kept : Keep → List ℕ → SeriesValue → Bool
is_kept keep pattern s = stays keep (is_found pattern s.name)

-- ---- the functions

abbrev pub Chooses : Choose → List SeriesValue → List SeriesValue → Type 0
Chooses (Alias name) set chosen = chosen ≡ map (renamed name) set
Chooses (AliasByNode numbers) set chosen = chosen ≡ map (renamed_by_nodes numbers) set
Chooses AliasByMetric set chosen = chosen ≡ map (renamed_by_nodes last_node) set
Chooses (Limit most) set chosen = chosen ≡ take most set
Chooses SortByName set chosen = Sorts by_name set chosen
Chooses SortByMaxima set chosen = Sorts (by_measure Max Greatest) set chosen
Chooses SortByTotal set chosen = Sorts (by_measure Total Greatest) set chosen
Chooses SortByMinima set chosen = Sorts (by_measure Min Least) set chosen
Chooses (HighestMax most) set chosen = SelectsFirst most (by_measure Max Greatest) set chosen
Chooses (HighestCurrent most) set chosen = SelectsFirst most (by_measure Current Greatest) set chosen
Chooses (HighestAverage most) set chosen = SelectsFirst most (by_measure Average Greatest) set chosen
Chooses (LowestCurrent most) set chosen = SelectsFirst most (by_measure Current Least) set chosen
Chooses (LowestAverage most) set chosen = SelectsFirst most (by_measure Average Least) set chosen
Chooses (MaximumAbove bound) set chosen = chosen ≡ filter (is_beside Max Above bound) set
Chooses (MinimumAbove bound) set chosen = chosen ≡ filter (is_beside Min Above bound) set
Chooses (CurrentAbove bound) set chosen = chosen ≡ filter (is_beside Current Above bound) set
Chooses (AverageAbove bound) set chosen = chosen ≡ filter (is_beside Average Above bound) set
Chooses (MaximumBelow bound) set chosen = chosen ≡ filter (is_beside Max Below bound) set
Chooses (MinimumBelow bound) set chosen = chosen ≡ filter (is_beside Min Below bound) set
Chooses (CurrentBelow bound) set chosen = chosen ≡ filter (is_beside Current Below bound) set
Chooses (AverageBelow bound) set chosen = chosen ≡ filter (is_beside Average Below bound) set
Chooses RemoveEmptySeries set chosen = chosen ≡ filter has_known set
Chooses (Grep pattern) set chosen = chosen ≡ filter (is_kept Matching pattern) set
Chooses (Exclude pattern) set chosen = chosen ≡ filter (is_kept Others pattern) set
Chooses (AliasSub pattern replacement) set chosen = chosen ≡ map (renamed_by_pattern pattern replacement) set

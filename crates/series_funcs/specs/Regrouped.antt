-- Series in groups, and what each group has together.
use Rattle.std.specs.Prelude.{ℕ, not, List, [], ◌∷◌, filter, map, Result}
use Rattle.std.specs.Str.{bytes_eq}
use Rattle.metric_path.specs.Path.{nodes_of}
use Rattle.series_set.specs.declared.grid.EvalFault.{EvalFault}
use Rattle.series_set.specs.Series.{SeriesValue}
use Rattle.series_funcs.specs.declared.kinds.Combine.{Combine}
use Rattle.series_funcs.specs.declared.kinds.Combine.TheVariants as combine
use Rattle.series_funcs.specs.declared.kinds.Regroup.{Regroup}
use Rattle.series_funcs.specs.declared.kinds.Regroup.TheVariants.{GroupByNode, SumSeriesWithWildcards, AverageSeriesWithWildcards}
use Rattle.series_funcs.specs.Combined.{combined_series}
use Rattle.series_funcs.specs.Each.{each_of}
use Rattle.series_funcs.specs.StepsFirst.{steps_first}
use Rattle.series_funcs.specs.NodeTexts.{node_text, text_without}

-- ---- groups by a text

-- texts without repeats, in order of first appearance
abbrev pub first_seen : List (List ℕ) → List (List ℕ)
first_seen [] = []
first_seen (text ∷ texts) = text ∷ filter (λ other. not (bytes_eq text other)) (first_seen texts)

-- the series that have a text, in their order
abbrev pub with_text : (SeriesValue → List ℕ) → List SeriesValue → List ℕ → List SeriesValue
with_text of set text = filter (λ s. bytes_eq text (of s)) set

-- the texts of the series in order of first appearance, each with the series that have it
abbrev pub Groups : Type 0
Groups = List (List ℕ × List SeriesValue)

unfoldable pub groups_by : (SeriesValue → List ℕ) → List SeriesValue → Groups
groups_by of set = map (λ text. (text, with_text of set text)) (first_seen (map of set))

-- ---- by kind

-- by which text of its path a series is grouped
unfoldable pub group_text : Regroup → List ℕ → List ℕ
group_text (GroupByNode node kind) path = node_text node (nodes_of path)
group_text (SumSeriesWithWildcards nodes) path = text_without nodes (nodes_of path)
group_text (AverageSeriesWithWildcards nodes) path = text_without nodes (nodes_of path)

-- what the series of a group have together
unfoldable pub combine_of : Regroup → Combine
combine_of (GroupByNode node kind) = kind
combine_of (SumSeriesWithWildcards nodes) = combine.Sum
combine_of (AverageSeriesWithWildcards nodes) = combine.Average

-- a group combined to one series, whose name and path are its text
abbrev pub combined_group : Combine → List ℕ × List SeriesValue → Result SeriesValue EvalFault
combined_group kind group = combined_series kind group.1 group.0 group.0

-- the series of each group
abbrev pub members : Groups → List (List SeriesValue)
members groups = map (λ group. group.1) groups

-- each of some groups combined
abbrev pub combined_groups : Combine → Groups → Result (List SeriesValue) EvalFault
combined_groups kind groups = steps_first (members groups) (each_of (combined_group kind) groups)

-- Each group combined; or the first step that is too wide, from the left, and else why the first group has no values together of those that have none.
unfoldable pub regroup : Regroup → List SeriesValue → Result (List SeriesValue) EvalFault
regroup kind set = combined_groups (combine_of kind) (groups_by (λ s. group_text kind s.path) set)

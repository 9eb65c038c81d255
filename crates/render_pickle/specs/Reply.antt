-- Replies as values of a pickle, as Graphite's cluster servers answer them.
use Rattle.std.specs.Prelude.{ℕ, ℤ, pos, true, false, List, map, codes, Option, Some, None}
use Rattle.series_set.specs.Series.{SeriesValue, end_of}
use Rattle.render_pickle.specs.declared.found.Interval.{Interval}
use Rattle.render_pickle.specs.declared.found.FoundNode.{FoundNode}
use Rattle.pickle_form.specs.Value.{Value, Members, none, boolean, whole, double, text, sequence, mapping, no_items, item, no_members, member, row}
use Rattle.pickle_form.specs.Double.{double_bits}

-- ---- series

unfoldable pub name_key : List ℕ
name_key = codes "name"

unfoldable pub expression_key : List ℕ
expression_key = codes "pathExpression"

unfoldable pub start_key : List ℕ
start_key = codes "start"

unfoldable pub end_key : List ℕ
end_key = codes "end"

unfoldable pub step_key : List ℕ
step_key = codes "step"

unfoldable pub values_key : List ℕ
values_key = codes "values"

-- a value: the double nearest to its thousandths, none where it is missing
abbrev pub reading_value : Option ℤ → Value
reading_value None = none
reading_value (Some thousandths) = double (double_bits thousandths)

abbrev pub values_member : List (Option ℤ) → Members
values_member values = member values_key (sequence (row (map reading_value values))) no_members

-- what follows the texts: the times, and the values
unfoldable pub times_and_values : SeriesValue → Members
times_and_values s =
    member start_key (whole (pos s.start)) (member end_key (whole (pos (end_of s))) (member step_key (whole (pos s.step)) (values_member s.values)))

-- a series: a mapping, with its path as the expression
abbrev pub series_value : SeriesValue → Value
series_value s = mapping (member name_key (text s.name) (member expression_key (text s.path) (times_and_values s)))

-- the series in order
abbrev pub render_value : List SeriesValue → Value
render_value set = sequence (row (map series_value set))

-- ---- nodes

unfoldable pub path_key : List ℕ
path_key = codes "path"

unfoldable pub is_leaf_key : List ℕ
is_leaf_key = codes "is_leaf"

unfoldable pub intervals_key : List ℕ
intervals_key = codes "intervals"

-- a pair of moments
abbrev pub interval_value : Interval → Value
interval_value i = sequence (item (whole (pos i.from)) (item (whole (pos i.until)) no_items))

abbrev pub interval_members : Interval → Members
interval_members i = member intervals_key (sequence (item (interval_value i) no_items)) no_members

-- a leaf has values in an interval, and a branch none
abbrev pub leaf_members : Option Interval → Members
leaf_members None = member is_leaf_key (boolean false) no_members
leaf_members (Some i) = member is_leaf_key (boolean true) (interval_members i)

abbrev pub node_value : FoundNode → Value
node_value node = mapping (member path_key (text node.path) (leaf_members node.interval))

abbrev pub find_value : List FoundNode → Value
find_value nodes = sequence (row (map node_value nodes))

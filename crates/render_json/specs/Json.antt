-- Series in the JSON of Graphite's render API.
use Rattle.std.specs.Prelude.{ℕ, ℤ, List, ◌++◌, map, codes, decimal, replicate, Option}
use Rattle.json.specs.Print.{quoted}
use Rattle.series_set.specs.Series.{SeriesValue}
use Rattle.render_json.specs.Values.{joined, points_of, value_or}

unfoldable pub null_text : List ℕ
null_text = codes "null"

unfoldable pub target_text : List ℕ
target_text = codes "{\"target\": "

unfoldable pub datapoints_text : List ℕ
datapoints_text = codes ", \"datapoints\": ["

-- `[value, time]`, `null` where the value is missing
abbrev pub point_text : ℕ × Option ℤ → List ℕ
point_text point = codes "[" ++ (value_or null_text point.1 ++ (codes ", " ++ (decimal point.0 ++ codes "]")))

-- what a point has behind its value, and what stands behind the point
abbrev pub time_tail : ℕ → List ℕ → List ℕ
time_tail time behind = codes ", " ++ (decimal time ++ (codes "]" ++ behind))

-- what stands in memory behind a point that is written there
unfoldable pub no_text : List ℕ
no_text = replicate 64 0

abbrev pub points_text : SeriesValue → List ℕ
points_text s = joined (codes ", ") (map point_text (points_of s))

-- a series: its name as JSON writes a text, and its points
abbrev pub series_json : SeriesValue → List ℕ
series_json s = target_text ++ (quoted s.name ++ (datapoints_text ++ (points_text s ++ codes "]}")))

-- the list of series
abbrev pub json_of : List SeriesValue → List ℕ
json_of set = codes "[" ++ (joined (codes ", ") (map series_json set) ++ codes "]")

-- Series in the raw form of Graphite's render API.
use Rattle.std.specs.Prelude.{ℕ, List, ◌++◌, flat_map, map, codes, decimal}
use Rattle.series_set.specs.Series.{SeriesValue, end_of}
use Rattle.render_json.specs.Values.{joined, value_or}

unfoldable pub none_text : List ℕ
none_text = codes "None"

-- a number behind a comma
abbrev pub number_text : ℕ → List ℕ
number_text number = codes "," ++ decimal number

-- `name,start,end,step|`, the name as it is
abbrev pub head_text : SeriesValue → List ℕ
head_text s = s.name ++ (number_text s.start ++ (number_text (end_of s) ++ (number_text s.step ++ codes "|")))

-- the values, `None` for a missing one
abbrev pub values_text : SeriesValue → List ℕ
values_text s = joined (codes ",") (map (value_or none_text) s.values)

-- a series: a line
abbrev pub series_raw : SeriesValue → List ℕ
series_raw s = head_text s ++ (values_text s ++ codes "\n")

-- the series, a line each
abbrev pub raw_of : List SeriesValue → List ℕ
raw_of set = flat_map series_raw set

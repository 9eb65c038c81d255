-- Series over series.
use Rattle.std.specs.Prelude.{ℕ, ℤ, List, [], ◌∷◌, map, codes, Option, None, Result, Ok}
use Rattle.std.specs.List.{range_with_len}
use Rattle.std.specs.Option.{option_and_then}
use Rattle.std.specs.Result.{result_map_both}
use Rattle.series_set.specs.declared.grid.Grid.{Grid}
use Rattle.series_set.specs.declared.grid.EvalFault.{EvalFault}
use Rattle.series_set.specs.Series.{SeriesValue}
use Rattle.series_set.specs.CommonGrid.{common_grid, value_count}
use Rattle.series_set.specs.OnGrid.{on_grid}
use Rattle.series_funcs.specs.Combined.{value_at}
use Rattle.series_funcs.specs.Each.{each_of}
use Rattle.series_funcs.specs.StepsFirst.{steps_first}
use Rattle.series_funcs.specs.Named.{call_text}
use Rattle.series_funcs.specs.Quotients.{ratio}

-- a value over another; missing where one is missing
unfoldable pub ratio_of : Option ℤ → Option ℤ → Option ℤ
ratio_of dividend divisor = option_and_then (λ a. option_and_then (λ b. ratio a b) divisor) dividend

-- `divideSeries(NAME)`, or with what stands behind the name there
unfoldable pub quotient_name : List ℕ → List ℕ → List ℕ
quotient_name name tail = call_text (codes "divideSeries") name tail

unfoldable pub missing_tail : List ℕ
missing_tail = codes ",MISSING"

-- the values of a series over those of another, at so many places
unfoldable pub ratios : SeriesValue → SeriesValue → ℕ → List (Option ℤ)
ratios dividend divisor count = map (λ place. ratio_of (value_at place dividend) (value_at place divisor)) (range_with_len 0 count)

-- a series over another, both on a grid
unfoldable pub divided_on : SeriesValue → SeriesValue → Grid → SeriesValue
divided_on dividend divisor grid = record {
  name = quotient_name dividend.name (44 ∷ divisor.name);
  path = dividend.path;
  start = grid.start;
  step = grid.step;
  values = ratios (on_grid dividend grid) (on_grid divisor grid) (value_count grid);
}

-- a series over another, on the common grid of the two
unfoldable pub divided : SeriesValue → SeriesValue → Result SeriesValue EvalFault
divided divisor dividend = result_map_both (divided_on dividend divisor) (λ fault. fault) (common_grid (dividend ∷ divisor ∷ []))

-- a series with no value known, where there is not one series to divide by
abbrev pub undivided : List ℕ → SeriesValue → SeriesValue
undivided tail s = record s { name = quotient_name s.name tail; values = map (λ _. None) s.values }

-- each of some series with another one
abbrev pub pairs_with : SeriesValue → List SeriesValue → List (List SeriesValue)
pairs_with other set = map (λ s. s ∷ other ∷ []) set

-- Each of some series over one; or the first step of a pair that is too wide, from the left, and else the fault of the first pair that has one.
abbrev pub divided_each : SeriesValue → List SeriesValue → Result (List SeriesValue) EvalFault
divided_each divisor dividends = steps_first (pairs_with divisor dividends) (each_of (divided divisor) dividends)

-- each series over the one divisor
unfoldable pub divide : List SeriesValue → List SeriesValue → Result (List SeriesValue) EvalFault
divide dividends [] = Ok (map (undivided missing_tail) dividends)
divide dividends (divisor ∷ []) = divided_each divisor dividends
divide dividends (first ∷ second ∷ others) = Ok (map (undivided []) dividends)

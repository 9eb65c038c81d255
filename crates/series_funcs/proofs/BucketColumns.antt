-- The values of series in one bucket of a grid.
use Rattle.std.proofs.Common.{◌≡◌, ℕ, ℤ, ◌+◌, ◌<◌, List, [], ◌∷◌, ◌++◌, length, get_or, take, map, Option, None, sym, ap, ◌∙◌, arith}
use Rattle.std.specs.List.{cons_option, range_with_len}
use Rattle.std.proofs.lemmas.List.{map-append, map_more, length-map}
use Rattle.std.proofs.lemmas.List.Elements.{filter_map-append}
use Rattle.std.proofs.lemmas.List.FromFn.{get_or-map-range_with_len}
use Rattle.series_set.specs.declared.grid.Grid.{Grid}
use Rattle.series_set.specs.Series.{SeriesValue}
use Rattle.series_set.specs.Average.{known}
use Rattle.series_set.specs.CommonGrid.{value_count}
use Rattle.series_set.specs.OnGrid.{bucket_value, on_grid}
use Rattle.series_funcs.specs.declared.kinds.Combine.{Combine}
use Rattle.series_funcs.specs.Combined.{all_on, column, combined, combined_known, value_at}
use Rattle.series_funcs.proofs.ColumnLemmas.{columns_more}

-- the value of a series on a grid is that of the bucket
value_on : (s : SeriesValue) (grid : Grid) (k : ℕ) → k < value_count grid → value_at k (on_grid s grid) ≡ bucket_value s grid k
unfolding on_grid
value_on s grid k within = get_or-map-range_with_len (bucket_value s grid) 0 (value_count grid) k k None within (omega arith)

-- one series more
pub moved_more : (set : List SeriesValue) (grid : Grid) (k i : ℕ) (s : SeriesValue) (value : Option ℤ) → k < value_count grid → i < length set → s ≡ get_or set i s → value ≡ bucket_value s grid k
    → known (column (all_on (take (i + 1) set) grid) k) ≡ known (column (all_on (take i set) grid) k) ++ cons_option value []
moved_more set grid k i s value bucket within is value_is =
    let before = all_on (take i set) grid in
    ap (λ (moved : List SeriesValue). known (column moved k)) (map_more (λ s. on_grid s grid) set i s within)
    ∙ ap known (map-append (value_at k) before (on_grid (get_or set i s) grid ∷ []))
    ∙ filter_map-append (λ value. value) (column before k) (value_at k (on_grid (get_or set i s) grid) ∷ [])
    ∙ ap (λ (s : SeriesValue). known (column before k) ++ cons_option (value_at k (on_grid s grid)) []) (sym is)
    ∙ ap (λ (v : Option ℤ). known (column before k) ++ cons_option v []) (value_on s grid k bucket ∙ sym value_is)

pub length-all_on : (set : List SeriesValue) (grid : Grid) → length (all_on set grid) ≡ length set
length-all_on set grid = length-map set (λ s. on_grid s grid)

-- one bucket more
pub buckets_more : (kind : Combine) (set : List SeriesValue) (grid : Grid) (k : ℕ)
    → map (λ place. combined kind (column (all_on set grid) place)) (range_with_len 0 k) ++ combined_known kind (known (column (all_on set grid) k)) (length set) ∷ []
    ≡ map (λ place. combined kind (column (all_on set grid) place)) (range_with_len 0 (k + 1))
buckets_more kind set grid k =
    ap (λ (n : ℕ). map (λ place. combined kind (column (all_on set grid) place)) (range_with_len 0 k) ++ combined_known kind (known (column (all_on set grid) k)) n ∷ []) (sym (length-all_on set grid))
    ∙ columns_more kind (all_on set grid) k

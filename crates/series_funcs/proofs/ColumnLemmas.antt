-- The values of series at one moment, and series on a grid that all have.
use Rattle.std.proofs.Common.{◌≡◌, ℕ, ℤ, ◌+◌, ◌-◌, ◌*◌, ◌<◌, ◌≤◌, Bool, true, false, List, [], ◌∷◌, ◌++◌, length, get_or, take, map, find, fold, pos, Result, Ok, Err, cond, Option, Some, None, refl, sym, ap, subst, ◌∙◌, arith}
use Rattle.std.specs.List.{cons_option, list_all, range_with_len}
use Rattle.std.proofs.lemmas.List.{map_more, length-map}
use Rattle.std.proofs.lemmas.List.Elements.{filter_map-append}
use Rattle.std.proofs.lemmas.List.FromFn.{length-map-range_with_len, map-range_with_len_more}
use Rattle.std.proofs.lemmas.List.Folds.{fold_stuck}
use Rattle.std.proofs.lemmas.Nat.{div-add-mod'}
use Rattle.std.proofs.lemmas.Bool.{and_parts}
use Rattle.series_set.specs.declared.grid.Grid.{Grid}
use Rattle.series_set.specs.Series.{SeriesValue, end_of, latest_end, widest_step}
use Rattle.series_set.specs.Average.{known}
use Rattle.series_set.specs.CommonGrid.{EndsSoonAfter, IsGrid, common_grid, grid_of, has_grid, is_too_wide, lcm, lcm_of, multiples_from, short_grid, steps_of, value_count, wide_multiple}
use Rattle.series_set.specs.declared.grid.EvalFault.{EvalFault}
use Rattle.series_set.specs.declared.grid.EvalFault.TheVariants.{StepTooWide}
use Rattle.series_set.proofs.LawLemmas.{grid_found, step_found}
use Rattle.std.specs.Option.{option_map_or}
use Rattle.std.proofs.lemmas.Bool.Decides.{nat_tests}
use Rattle.series_set.specs.OnGrid.{on_grid}
use Rattle.series_set.proofs.GridLemmas.{agrees}
use Rattle.series_set.proofs.OwnGridLemmas.{own_grid_stays}
use Rattle.series_funcs.specs.declared.kinds.Combine.{Combine}
use Rattle.series_funcs.specs.Combined.{AreCombinable, IsSoonAfter, all_on, column, combined, combined_columns, combined_known, combined_on, times_next, value_at}
use Rattle.series_funcs.specs.Quotients.{times}

-- one series more
pub known_more : (set : List SeriesValue) (place i : ℕ) (s : SeriesValue) (value : Option ℤ) → i < length set → s ≡ get_or set i s → value ≡ value_at place s
    → known (column (take (i + 1) set) place) ≡ known (column (take i set) place) ++ cons_option value []
known_more set place i s value within is value_is =
    ap known (map_more (value_at place) set i s within)
    ∙ filter_map-append (λ value. value) (column (take i set) place) (value_at place (get_or set i s) ∷ [])
    ∙ ap (λ (s : SeriesValue). known (column (take i set) place) ++ cons_option (value_at place s) []) (sym is)
    ∙ ap (λ (v : Option ℤ). known (column (take i set) place) ++ cons_option v []) (sym value_is)

pub length-known : (values : List (Option ℤ)) → length (known values) ≤ length values
length-known [] = omega arith
length-known (None ∷ values) = omega (arith, length-known values)
length-known (Some v ∷ values) = omega (arith, length-known values)

pub length-known_column : (set : List SeriesValue) (place : ℕ) → length (known (column set place)) ≤ length set
length-known_column set place = omega (arith, length-known (column set place), length-map set (value_at place))

-- one place more
pub columns_more : (kind : Combine) (set : List SeriesValue) (place : ℕ)
    → map (λ place. combined kind (column set place)) (range_with_len 0 place) ++ combined_known kind (known (column set place)) (length set) ∷ []
    ≡ map (λ place. combined kind (column set place)) (range_with_len 0 (place + 1))
columns_more kind set place =
    ap (λ (n : ℕ). map (λ place. combined kind (column set place)) (range_with_len 0 place) ++ combined_known kind (known (column set place)) n ∷ []) (sym (length-map set (value_at place)))
    ∙ sym (map-range_with_len_more (λ place. combined kind (column set place)) 0 place place (omega arith))

-- a product that stops
pub product_stops : (first : ℤ) (others : List ℤ) (i : ℕ) (product factor : ℤ) → i < length others → Some product ≡ fold times_next (Some first) (take i others) → factor ≡ get_or others i (pos 0) → None ≡ times product factor
    → None ≡ fold times_next (Some first) others
product_stops first others i product factor within so_far is none =
    fold_stuck times_next None (λ x. refl) (Some first) others i (pos 0) within (ap (λ (p : Option ℤ). times_next p (get_or others i (pos 0))) (sym so_far) ∙ ap (times product) (sym is) ∙ sym none)

-- series that all have a grid are as they were on it
pub all_on_own : (grid : Grid) (set : List SeriesValue) → 1 ≤ grid.step → list_all (has_grid grid) set ≡ true → all_on set grid ≡ set
all_on_own grid [] some all = refl
all_on_own grid (s ∷ set) some all =
    let parts : (has_grid grid s ≡ true) × (list_all (has_grid grid) set ≡ true) = and_parts _ _ all in
    let is : on_grid s grid ≡ s = own_grid_stays s grid (omega (arith, some, (agrees grid s parts.0).step)) parts.0 in
    rw (is, all_on_own grid set some parts.1) refl

pub length-combined_columns : (kind : Combine) (set : List SeriesValue) (count : ℕ) → length (combined_columns kind set count) ≡ count
unfolding combined_columns
length-combined_columns kind set count = length-map-range_with_len (λ place. combined kind (column set place)) 0 count

-- ---- grids that end soon after their series

-- a grid of series that end early ends in time
pub grid_is_early : (set : List SeriesValue) (grid : Grid) → AreCombinable set → EndsSoonAfter set grid.end → grid.end ≤ latest_end
grid_is_early set grid may soon = omega (arith, soon (latest_end - widest_step) may.early)

-- the step of a common grid is not too wide
walks_short : (m : ℕ) (steps : List ℕ) → m ≤ widest_step → find is_too_wide (multiples_from m steps) ≡ None → fold lcm m steps ≤ widest_step
walks_short m [] short none = short
walks_short m (s ∷ steps) short none = by (is_too_wide (lcm m s)) refl none (λ narrow rest. walks_short (lcm m s) steps narrow rest)
  where
    by : (is : Bool) → is_too_wide (lcm m s) ≡ is → cond is (Some (lcm m s)) (find is_too_wide (multiples_from (lcm m s) steps)) ≡ None
        → (lcm m s ≤ widest_step → find is_too_wide (multiples_from (lcm m s) steps) ≡ None → fold lcm (lcm m s) steps ≤ widest_step) → fold lcm (lcm m s) steps ≤ widest_step
    by true e wide more = cc
    by false e left more = more (grind (arith, nat_tests)) left

fits_none : (wide : Option ℕ) (found : Result Grid EvalFault) (grid : Grid) → option_map_or (λ m. Err (StepTooWide m)) wide found ≡ Ok grid → wide ≡ None
fits_none None found grid is = refl
fits_none (Some m) found grid is = cc

pub common_step_short : (set : List SeriesValue) (grid : Grid) → common_grid set ≡ Ok grid → grid.step ≤ widest_step
unfolding common_grid lcm_of wide_multiple
common_step_short set grid is =
    let none = fits_none (wide_multiple (steps_of set)) (short_grid (grid_of set)) grid is in
    let step : grid.step ≡ lcm_of (steps_of set) = ap (λ (g : Grid). g.step) (grid_found set grid is) ∙ step_found set in
    subst (λ (n : ℕ). n ≤ widest_step) (sym step) (walks_short 1 (steps_of set) (omega arith) none)

-- what ends with a grid ends soon after the series of the grid
pub soon_after : (set : List SeriesValue) (grid : Grid) (s : SeriesValue) → IsGrid grid → grid.step ≤ widest_step → EndsSoonAfter set grid.end → s.start ≡ grid.start → s.step ≡ grid.step → length s.values ≡ value_count grid → IsSoonAfter set s
soon_after set grid s is short soon start step many =
    let ends : end_of s ≡ grid.end = omega (arith, start, ap (λ (n : ℕ). length s.values * n) step, ap (λ (n : ℕ). n * grid.step) many, div-add-mod' (grid.end - grid.start) grid.step, is.whole, is.order) in
    record { short = omega (arith, step, short); soon = subst (EndsSoonAfter set) (sym ends) soon }

pub combined_soon : (kind : Combine) (set : List SeriesValue) (name path : List ℕ) (grid : Grid) → IsGrid grid → common_grid set ≡ Ok grid → EndsSoonAfter set grid.end → IsSoonAfter set (combined_on kind set name path grid)
unfolding combined_on
combined_soon kind set name path grid is found soon =
    soon_after set grid _ is (common_step_short set grid found) soon refl refl (length-combined_columns kind (all_on set grid) (value_count grid))

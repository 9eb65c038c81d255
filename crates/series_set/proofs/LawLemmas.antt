-- Proofs of the laws.
use Rattle.std.proofs.Common.{◌≡◌, ℕ, zero, suc, ℤ, pos, negsuc, ◌+◌, ◌*◌, ◌/◌, ◌%◌, ◌+ℤ◌, ◌*ℤ◌, ◌≤ℤ◌, ◌<ℤ◌, ◌<◌, ◌≤◌, ◌==◌, min, max, nat_le, Bool, true, false, List, [], ◌∷◌, length, get_or, map, fold, find, All, cond, Option, Some, None, Result, Ok, Err, refl, sym, ap, subst, ◌∙◌, arith}
use Prim.Native.Nat.{◌∣◌}
use Rattle.std.proofs.Math.Nat.{dvd_of_mod-eq-zero, le_of_dvd, mod-eq-zero_of_dvd, one-dvd}
use Rattle.std.proofs.lemmas.Nat.Gcd.{dvd_antisymm, dvd_refl, dvd_trans}
use Rattle.std.specs.Int.{int_div_euclid}
use Rattle.std.specs.List.{list_all}
use Rattle.std.specs.Option.{option_map_or}
use Rattle.std.proofs.lemmas.Bool.{false≢true}
use Rattle.std.proofs.lemmas.Bool.Decides.{nat_tests}
use Rattle.std.proofs.lemmas.Int.{ints}
use Rattle.std.proofs.lemmas.List.Elements.{All-cons, All-head, All-tail}
use Rattle.std.proofs.lemmas.Nat.{div-add-mod', mod_below, mul-le}
use Rattle.series_set.specs.declared.grid.Grid.{Grid}
use Rattle.series_set.specs.declared.grid.EvalFault.{EvalFault}
use Rattle.series_set.specs.declared.grid.EvalFault.TheVariants.{StepTooWide, TooLong}
use Rattle.series_set.specs.Series.{IsSeries, SeriesValue, end_of, most_values, widest_step}
use Rattle.series_set.specs.Average.{average, sum_of}
use Rattle.series_set.specs.CommonGrid.{common_grid, grid_of, greatest_end, has_grid, hull, is_too_wide, lcm, lcm_of, least_start, multiples_from, short_grid, steps_of, value_count, wide_multiple, widened}
use Rattle.series_set.specs.GridLaws.{AgreeingSeriesKeepTheirGrid, AverageIsRoundedDown, CommonStepIsLeast, FewValuesStay, GridHoldsAllMoments, HoldsMoments, IsLeastMultiple, OwnGridStays}
use Rattle.series_set.specs.Thinned.{thinned}
use Rattle.series_set.proofs.GridLemmas.{Agrees, agrees, count_agreed, fold-min_le, le-fold-max, next_is}
use Rattle.series_set.proofs.MultipleLemmas.{lcm_is}
use Rattle.series_set.proofs.OwnGridLemmas.{own_grid_stays}

-- ---- the step

-- a number and steps that all divide n: their least common multiple does
record Folds (m : ℕ) (steps : List ℕ) (least : ℕ) : Type 0 where
  some : 1 ≤ least
  base : m ∣ least
  multiple : All (λ step. step ∣ least) steps
  divides : (n : ℕ) → m ∣ n → All (λ step. step ∣ n) steps → least ∣ n

folds : (m : ℕ) (steps : List ℕ) → 1 ≤ m → All (λ step. 1 ≤ step) steps → Folds m steps (fold lcm m steps)
folds m [] some each = record { some = some; base = dvd_refl m; multiple = λ k d u. absurd (omega arith); divides = λ n base all. base }
folds m (s ∷ steps) some each =
    let first = lcm_is m s some (All-head (λ (step : ℕ). 1 ≤ step) s steps each) in
    let more = folds (lcm m s) steps first.some (All-tail (λ (step : ℕ). 1 ≤ step) s steps each) in
    let least = fold lcm (lcm m s) steps in
    record {
      some = more.some;
      base = dvd_trans m first.first more.base;
      multiple = All-cons (λ (step : ℕ). step ∣ least) s steps (dvd_trans s first.second more.base) more.multiple;
      divides = λ n base all. more.divides n (first.divides n base (All-head (λ (step : ℕ). step ∣ n) s steps all)) (All-tail (λ (step : ℕ). step ∣ n) s steps all);
    }

steps_some : (set : List SeriesValue) → All IsSeries set → All (λ step. 1 ≤ step) (steps_of set)
steps_some [] all = λ k d u. absurd (omega arith)
steps_some (s ∷ set) all = All-cons (λ (step : ℕ). 1 ≤ step) s.step (steps_of set) (All-head IsSeries s set all).some (steps_some set (All-tail IsSeries s set all))

lcm_of_is : (steps : List ℕ) → All (λ step. 1 ≤ step) steps → IsLeastMultiple steps (lcm_of steps)
unfolding lcm_of
lcm_of_is steps each =
    let is = folds 1 steps (omega arith) each in
    record {
      some = is.some;
      multiple = λ k d u. mod-eq-zero_of_dvd _ (is.multiple k d u);
      least = λ n some all. le_of_dvd some (is.divides n (one-dvd n) (λ k d u. dvd_of_mod-eq-zero _ (all k d u)));
    }

-- ---- the grid of an answer

abbrev is_ok : Result Grid EvalFault → Bool
is_ok (Ok grid) = true
is_ok (Err fault) = false

abbrev grid_in : Grid → Result Grid EvalFault → Grid
grid_in other (Ok grid) = grid
grid_in other (Err fault) = other

short_answered : (grid found : Grid) (is_short : Bool) → cond is_short (Ok found) (Err (TooLong (value_count found))) ≡ Ok grid → grid ≡ found
short_answered grid found true is = sym (ap (grid_in grid) is)
short_answered grid found false is = absurd (false≢true (ap is_ok is))

answered : (grid found : Grid) (wide : Option ℕ) → option_map_or (λ m. Err (StepTooWide m)) wide (short_grid found) ≡ Ok grid → grid ≡ found
answered grid found None is = short_answered grid found (nat_le (value_count found) most_values) is
answered grid found (Some m) is = absurd (false≢true (ap is_ok is))

pub grid_found : (set : List SeriesValue) (grid : Grid) → common_grid set ≡ Ok grid → grid ≡ grid_of set
unfolding common_grid
grid_found set grid is = answered grid (grid_of set) (wide_multiple (steps_of set)) is

same_step : (hull : Grid) (own : Bool) → (cond own hull (widened hull)).step ≡ hull.step
same_step hull true = refl
same_step hull false = refl

pub step_found : (set : List SeriesValue) → (grid_of set).step ≡ lcm_of (steps_of set)
unfolding grid_of
step_found set = same_step (hull set) (list_all (has_grid (hull set)) set)

pub common_step_is_least : CommonStepIsLeast
common_step_is_least set grid legal is =
    subst (IsLeastMultiple (steps_of set)) (sym (ap (λ (g : Grid). g.step) (grid_found set grid is) ∙ step_found set)) (lcm_of_is (steps_of set) (steps_some set legal))

-- ---- the ends

fold-min_each : (x : ℕ) (set : List SeriesValue) (k : ℕ) (d : SeriesValue) → k < length set → fold min x (map (λ s. s.start) set) ≤ (get_or set k d).start
fold-min_each x [] k d within = absurd (omega arith)
fold-min_each x (s ∷ set) zero d within = omega (arith, fold-min_le (min x s.start) (map (λ s. s.start) set))
fold-min_each x (s ∷ set) (suc k) d within = fold-min_each (min x s.start) set k d (omega arith)

fold-max_each : (x : ℕ) (set : List SeriesValue) (k : ℕ) (d : SeriesValue) → k < length set → end_of (get_or set k d) ≤ fold max x (map end_of set)
fold-max_each x [] k d within = absurd (omega arith)
fold-max_each x (s ∷ set) zero d within = omega (arith, le-fold-max (max x (end_of s)) (map end_of set))
fold-max_each x (s ∷ set) (suc k) d within = fold-max_each (max x (end_of s)) set k d (omega arith)

starts_behind : (set : List SeriesValue) (k : ℕ) (d : SeriesValue) → k < length set → least_start set ≤ (get_or set k d).start
starts_behind [] k d within = absurd (omega arith)
starts_behind (s ∷ set) zero d within = fold-min_le s.start (map (λ s. s.start) set)
starts_behind (s ∷ set) (suc k) d within = fold-min_each s.start set k d (omega arith)

ends_before : (set : List SeriesValue) (k : ℕ) (d : SeriesValue) → k < length set → end_of (get_or set k d) ≤ greatest_end set
ends_before [] k d within = absurd (omega arith)
ends_before (s ∷ set) zero d within = le-fold-max (end_of s) (map end_of set)
ends_before (s ∷ set) (suc k) d within = fold-max_each (end_of s) set k d (omega arith)

holds_hull : (hull : Grid) (own : Bool) → 1 ≤ hull.step → ((cond own hull (widened hull)).start ≤ hull.start) × (hull.end ≤ (cond own hull (widened hull)).end)
holds_hull hull true some = (omega arith, omega arith)
holds_hull hull false some = (omega arith, (next_is hull.end hull.step some).behind)

grid_holds_hull : (set : List SeriesValue) → 1 ≤ lcm_of (steps_of set) → ((grid_of set).start ≤ least_start set) × (greatest_end set ≤ (grid_of set).end)
unfolding grid_of
grid_holds_hull set some = holds_hull (hull set) (list_all (has_grid (hull set)) set) some

holds_between : (grid : Grid) (s : SeriesValue) → 1 ≤ s.step → grid.start ≤ s.start → end_of s ≤ grid.end → HoldsMoments grid s
holds_between grid s some start end place within =
    (omega (arith, start), omega (arith, end, mul-le (place + 1) s.step (length s.values) s.step (omega arith) (omega arith)))

pub grid_holds_all_moments : GridHoldsAllMoments
grid_holds_all_moments set grid legal is k d within =
    let found = grid_found set grid is in
    let around = grid_holds_hull set (lcm_of_is (steps_of set) (steps_some set legal)).some in
    let start : grid.start ≤ (get_or set k d).start = omega (arith, ap (λ (g : Grid). g.start) found, around.0, starts_behind set k d within) in
    let end : end_of (get_or set k d) ≤ grid.end = omega (arith, ap (λ (g : Grid). g.end) found, around.1, ends_before set k d within) in
    holds_between grid (get_or set k d) (legal k d within).some start end

-- ---- series that agree

all_agree : (grid : Grid) (set : List SeriesValue) → All (λ s. has_grid grid s ≡ true) set → All (Agrees grid) set
all_agree grid set agree k d within = agrees grid (get_or set k d) (agree k d within)

least_agreed : (grid : Grid) (set : List SeriesValue) → All (Agrees grid) set → fold min grid.start (map (λ s. s.start) set) ≡ grid.start
least_agreed grid [] agree = refl
least_agreed grid (s ∷ set) agree =
    let here : min grid.start s.start ≡ grid.start = omega (arith, (All-head (Agrees grid) s set agree).start) in
    ap (λ (x : ℕ). fold min x (map (λ s. s.start) set)) here ∙ least_agreed grid set (All-tail (Agrees grid) s set agree)

greatest_agreed : (grid : Grid) (set : List SeriesValue) → All (Agrees grid) set → fold max grid.end (map end_of set) ≡ grid.end
greatest_agreed grid [] agree = refl
greatest_agreed grid (s ∷ set) agree =
    let here : max grid.end (end_of s) ≡ grid.end = omega (arith, (All-head (Agrees grid) s set agree).end) in
    ap (λ (x : ℕ). fold max x (map end_of set)) here ∙ greatest_agreed grid set (All-tail (Agrees grid) s set agree)

lcm_self : (m : ℕ) → 1 ≤ m → lcm m m ≡ m
lcm_self m some = let is = lcm_is m m some some in dvd_antisymm (is.divides m (dvd_refl m) (dvd_refl m)) is.first

lcm_one : (m : ℕ) → 1 ≤ m → lcm 1 m ≡ m
lcm_one m some = let is = lcm_is 1 m (omega arith) some in dvd_antisymm (is.divides m (one-dvd m) (dvd_refl m)) is.second

step_agreed : (grid : Grid) (set : List SeriesValue) → 1 ≤ grid.step → All (Agrees grid) set → fold lcm grid.step (steps_of set) ≡ grid.step
step_agreed grid [] some agree = refl
step_agreed grid (s ∷ set) some agree =
    let here : lcm grid.step s.step ≡ grid.step = ap (lcm grid.step) (All-head (Agrees grid) s set agree).step ∙ lcm_self grid.step some in
    ap (λ (x : ℕ). fold lcm x (steps_of set)) here ∙ step_agreed grid set some (All-tail (Agrees grid) s set agree)

none_wide : (grid : Grid) (set : List SeriesValue) → 1 ≤ grid.step → grid.step ≤ widest_step → All (Agrees grid) set → find is_too_wide (multiples_from grid.step (steps_of set)) ≡ None
none_wide grid [] some short agree = refl
none_wide grid (s ∷ set) some short agree =
    let here : lcm grid.step s.step ≡ grid.step = ap (lcm grid.step) (All-head (Agrees grid) s set agree).step ∙ lcm_self grid.step some in
    let narrow : is_too_wide grid.step ≡ false = grind (arith, nat_tests) in
    ap (λ (x : ℕ). find is_too_wide (x ∷ multiples_from x (steps_of set))) here ∙ rw narrow (none_wide grid set some short (All-tail (Agrees grid) s set agree))

all_pass : (p : SeriesValue → Bool) (set : List SeriesValue) → All (λ s. p s ≡ true) set → list_all p set ≡ true
all_pass p [] passes = refl
all_pass p (s ∷ set) passes = rw (All-head (λ (s : SeriesValue). p s ≡ true) s set passes) (all_pass p set (All-tail (λ (s : SeriesValue). p s ≡ true) s set passes))

same_grid : (a b : Grid) → a.start ≡ b.start → a.end ≡ b.end → a.step ≡ b.step → a ≡ b
same_grid a b start end step =
    ap (λ (n : ℕ). record { start = n; end = a.end; step = a.step }) start
    ∙ ap (λ (n : ℕ). record { start = b.start; end = n; step = a.step }) end
    ∙ ap (λ (n : ℕ). record { start = b.start; end = b.end; step = n }) step

hull_agreed : (grid : Grid) (s : SeriesValue) (set : List SeriesValue) → 1 ≤ grid.step → All (Agrees grid) (s ∷ set) → hull (s ∷ set) ≡ grid
unfolding lcm_of
hull_agreed grid s set some agree =
    let here = All-head (Agrees grid) s set agree in
    let others = All-tail (Agrees grid) s set agree in
    same_grid (hull (s ∷ set)) grid
    (ap (λ (x : ℕ). fold min x (map (λ s. s.start) set)) here.start ∙ least_agreed grid set others)
    (ap (λ (x : ℕ). fold max x (map end_of set)) here.end ∙ greatest_agreed grid set others)
    (ap (λ (x : ℕ). fold lcm x (steps_of set)) (ap (lcm 1) here.step ∙ lcm_one grid.step some) ∙ step_agreed grid set some others)

grid_agreed : (grid : Grid) (set : List SeriesValue) → hull set ≡ grid → All (λ s. has_grid grid s ≡ true) set → grid_of set ≡ grid
unfolding grid_of
grid_agreed grid set same agree =
    let own : list_all (has_grid (hull set)) set ≡ true = ap (λ (g : Grid). list_all (has_grid g) set) same ∙ all_pass (has_grid grid) set agree in
    rw own same

wide_agreed : (grid : Grid) (s : SeriesValue) (set : List SeriesValue) → 1 ≤ grid.step → grid.step ≤ widest_step → All (Agrees grid) (s ∷ set) → wide_multiple (steps_of (s ∷ set)) ≡ None
unfolding wide_multiple
wide_agreed grid s set some short agree =
    let here = All-head (Agrees grid) s set agree in
    let narrow : is_too_wide grid.step ≡ false = grind (arith, nat_tests) in
    ap (λ (x : ℕ). find is_too_wide (x ∷ multiples_from x (steps_of set))) (ap (lcm 1) here.step ∙ lcm_one grid.step some)
    ∙ rw narrow (none_wide grid set some short (All-tail (Agrees grid) s set agree))

short_agreed : (grid : Grid) (s : SeriesValue) → IsSeries s → Agrees grid s → short_grid grid ≡ Ok grid
short_agreed grid s legal same =
    let count = count_agreed grid s legal.some same in
    let few : nat_le (value_count grid) most_values ≡ true = let most = legal.few in grind (arith, nat_tests) in
    rw few refl

pub agreeing_series_keep_their_grid : AgreeingSeriesKeepTheirGrid
unfolding common_grid
agreeing_series_keep_their_grid [] grid some legal short agree = absurd (omega arith)
agreeing_series_keep_their_grid (s ∷ set) grid some legal short agree =
    let same = all_agree grid (s ∷ set) agree in
    let here = All-head (Agrees grid) s set same in
    let first = All-head IsSeries s set legal in
    let least : 1 ≤ grid.step = omega (arith, here.step, first.some) in
    let found : grid_of (s ∷ set) ≡ grid = grid_agreed grid (s ∷ set) (hull_agreed grid s set least same) agree in
    ap (λ (wide : Option ℕ). option_map_or (λ m. Err (StepTooWide m)) wide (short_grid (grid_of (s ∷ set)))) (wide_agreed grid s set least short same)
    ∙ ap short_grid found ∙ short_agreed grid s first here

-- ---- averages and thinned series

floor_below : (s n q r : ℕ) → q * n + r ≡ s → r < n → ((negsuc q *ℤ pos n) ≤ℤ negsuc s) × (negsuc s <ℤ ((negsuc q +ℤ pos 1) *ℤ pos n))
floor_below s n zero r is below = (omega (arith, ints), omega (arith, ints))
floor_below s n (suc q) r is below =
    let next : negsuc (suc q) +ℤ pos 1 ≡ negsuc q = omega (arith, ints) in
    (omega (arith, ints), subst (λ (z : ℤ). negsuc s <ℤ (z *ℤ pos n)) (sym next) (omega (arith, ints)))

pub floor_is : (z : ℤ) (n : ℕ) → 0 < n → ((int_div_euclid z (pos n) *ℤ pos n) ≤ℤ z) × (z <ℤ ((int_div_euclid z (pos n) +ℤ pos 1) *ℤ pos n))
floor_is (pos s) n some = (omega (arith, ints, div-add-mod' s n), omega (arith, ints, div-add-mod' s n, mod_below s n some))
floor_is (negsuc s) n some = floor_below s n (s / n) (s % n) (div-add-mod' s n) (mod_below s n some)

abbrev some_in : Option ℤ → ℤ → ℤ
some_in None other = other
some_in (Some z) other = z

abbrev is_there : Option ℤ → Bool
is_there None = false
is_there (Some z) = true

floor_of_average : (values : List ℤ) (a : ℤ) → 0 < length values → average values ≡ Some a → ((a *ℤ pos (length values)) ≤ℤ sum_of values) × (sum_of values <ℤ ((a +ℤ pos 1) *ℤ pos (length values)))
unfolding average
floor_of_average values a some is =
    let there : (length values == 0) ≡ false = grind (arith, nat_tests) in
    let shown : average values ≡ Some (int_div_euclid (sum_of values) (pos (length values))) = rw there refl in
    let mean : int_div_euclid (sum_of values) (pos (length values)) ≡ a = ap (λ (o : Option ℤ). some_in o a) (sym shown ∙ is) in
    let floor = floor_is (sum_of values) (length values) some in
    subst (λ (z : ℤ). ((z *ℤ pos (length values)) ≤ℤ sum_of values) × (sum_of values <ℤ ((z +ℤ pos 1) *ℤ pos (length values)))) mean floor

pub average_is_rounded_down : AverageIsRoundedDown
unfolding average
average_is_rounded_down [] a is = absurd (false≢true (ap is_there is))
average_is_rounded_down (v ∷ values) a is = floor_of_average (v ∷ values) a (omega arith) is

pub own_grid_is_kept : OwnGridStays
own_grid_is_kept s grid legal is = own_grid_stays s grid legal.some is

pub few_values_stay : FewValuesStay
unfolding thinned
few_values_stay most s few =
    let small : nat_le (length s.values) most ≡ true = grind (arith, nat_tests) in
    rw small refl

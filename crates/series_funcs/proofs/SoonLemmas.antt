-- When shaped series end, and their steps.
use Rattle.std.proofs.Common.{◌≡◌, ℕ, ◌+◌, ◌-◌, ◌*◌, ◌≤◌, nat_le, Bool, true, false, List, [], ◌∷◌, get_or, map, filter, All, Result, Ok, Err, cond, refl, sym, ap, subst, arith}
use Rattle.std.specs.Result.{result_map_both}
use Rattle.std.proofs.lemmas.List.Elements.{All-cons, All-filter, All-head, All-map, All-nil, All-tail, All-weaker}
use Rattle.std.proofs.lemmas.List.FromFn.{length-map-range_with_len}
use Rattle.std.proofs.lemmas.Nat.{div-add-mod'}
use Rattle.series_set.specs.declared.grid.Grid.{Grid}
use Rattle.series_set.specs.declared.grid.EvalFault.TheVariants.{TooLong}
use Rattle.series_set.specs.Series.{SeriesValue, end_of, most_values}
use Rattle.series_set.specs.CommonGrid.{value_count}
use Rattle.series_set.proofs.GridLemmas.{next_is, widened_is}
use Rattle.series_funcs.specs.declared.kinds.Gather.{Gather}
use Rattle.series_funcs.specs.declared.kinds.Shape.{Shape}
use Rattle.series_funcs.specs.Each.{each_of, onto}
use Rattle.series_funcs.specs.Moved.{IsSoLate, IsSummaryStep, later_by, shifted, stays, summarized, summary_at, summary_grid, summary_on}
use Rattle.series_funcs.specs.Shaped.{shaped_series}
use Rattle.series_funcs.proofs.ShapeLemmas.{length-shaped}

-- ---- on each of a list

onto_all : {Y E : Type 0} (P : Y → Type 0) (o : Result Y E) (m : Result (List Y) E) (ys : List Y) → onto o m ≡ Ok ys → ((y : Y) → o ≡ Ok y → P y) → ((zs : List Y) → m ≡ Ok zs → All P zs) → All P ys
onto_all P (Err fault) m ys is here there = cc
onto_all P (Ok y) (Err fault) ys is here there = cc
onto_all P (Ok y) (Ok zs) ys is here there =
    let same : y ∷ zs ≡ ys = cc in
    subst (All P) same (All-cons P y zs (here y refl) (there zs refl))

each_all : {X Y E : Type 0} (f : X → Result Y E) (P : Y → Type 0) (xs : List X) (ys : List Y) → each_of f xs ≡ Ok ys → All (λ x. (y : Y) → f x ≡ Ok y → P y) xs → All P ys
each_all f P [] ys is all = let none : [] ≡ ys = cc in subst (All P) none (All-nil P)
each_all f P (x ∷ xs) ys is all =
    onto_all P (f x) (each_of f xs) ys is (All-head (λ x. (y : _) → f x ≡ Ok y → P y) x xs all) (λ zs e. each_all f P xs zs e (All-tail (λ x. (y : _) → f x ≡ Ok y → P y) x xs all))

-- ---- each function

same_end : (kind : Shape) (function tail : List ℕ) (s : SeriesValue) → end_of (shaped_series kind function tail s) ≡ end_of s
unfolding shaped_series
same_end kind function tail s = ap (λ (n : ℕ). s.start + n * s.step) (length-shaped kind s.step s.values)

same_step : (kind : Shape) (function tail : List ℕ) (s : SeriesValue) → (shaped_series kind function tail s).step ≡ s.step
unfolding shaped_series
same_step kind function tail s = refl

pub plain_soon : (kind : Shape) (function tail : List ℕ) (set shaped : List SeriesValue) → shaped ≡ map (shaped_series kind function tail) set → All (IsSoLate set 0) shaped
plain_soon kind function tail set shaped is =
    subst (All (IsSoLate set 0)) (sym is) (All-map (IsSoLate set 0) (shaped_series kind function tail) set (λ k d within. record {
      short = λ all. omega (arith, same_step kind function tail (get_or set k d), all k d within);
      soon = λ by all. omega (arith, same_end kind function tail (get_or set k d), all k d within);
    }))

shifted_end : (past : Bool) (seconds : ℕ) (function tail : List ℕ) (s : SeriesValue) → end_of (shifted past seconds function tail s) ≤ end_of s + later_by past seconds
unfolding shifted
shifted_end true seconds function tail s = omega arith
shifted_end false seconds function tail s = omega arith

shifted_step : (past : Bool) (seconds : ℕ) (function tail : List ℕ) (s : SeriesValue) → (shifted past seconds function tail s).step ≡ s.step
unfolding shifted
shifted_step past seconds function tail s = refl

pub shift_soon : (past : Bool) (seconds : ℕ) (function tail : List ℕ) (set shaped : List SeriesValue) → shaped ≡ map (shifted past seconds function tail) (filter (stays past seconds) set) → All (IsSoLate set (later_by past seconds)) shaped
shift_soon past seconds function tail set shaped is =
    let late = later_by past seconds in
    let each : All (λ s. IsSoLate set late (shifted past seconds function tail s)) set = (λ k d within. record {
      short = λ all. omega (arith, shifted_step past seconds function tail (get_or set k d), all k d within);
      soon = λ by all. omega (arith, shifted_end past seconds function tail (get_or set k d), all k d within);
    }) in
    subst (All (IsSoLate set late)) (sym is) (All-map (IsSoLate set late) (shifted past seconds function tail) (filter (stays past seconds) set)
    (All-filter (stays past seconds) (λ s. IsSoLate set late (shifted past seconds function tail s)) set each))

-- what a summary has that is not too long
short_is : (grid : Grid) (is_short : Bool) (g : Grid → SeriesValue) (s : SeriesValue) → result_map_both g (λ fault. fault) (cond is_short (Ok grid) (Err (TooLong (value_count grid)))) ≡ Ok s → s ≡ g grid
short_is grid true g s is = let same : g grid ≡ s = cc in sym same
short_is grid false g s is = cc

summary_is : (step : ℕ) (gather : Gather) (function tail : List ℕ) (s summary : SeriesValue) → summarized step gather function tail s ≡ Ok summary → summary ≡ summary_on gather function tail s (summary_grid step s)
unfolding summarized
summary_is step gather function tail s summary is = short_is (summary_grid step s) (nat_le (value_count (summary_grid step s)) most_values) (summary_on gather function tail s) summary is

summary_end : (step : ℕ) (gather : Gather) (function tail : List ℕ) (s : SeriesValue) → 1 ≤ step → end_of (summary_on gather function tail s (summary_grid step s)) ≤ end_of s + step
unfolding summary_on
summary_end step gather function tail s some =
    let grid = summary_grid step s in
    let whole = widened_is (record { start = s.start; end = end_of s; step = step }) some (omega arith) in
    let many = length-map-range_with_len (summary_at gather s grid) 0 (value_count grid) in
    let near = (next_is (end_of s) step some).near in
    omega (arith, ap (λ (n : ℕ). n * step) many, div-add-mod' (grid.end - grid.start) step, whole.whole, whole.order, near)

summary_step : (step : ℕ) (gather : Gather) (function tail : List ℕ) (s : SeriesValue) → (summary_on gather function tail s (summary_grid step s)).step ≡ step
unfolding summary_on
summary_step step gather function tail s = refl

pub summarize_soon : (step : ℕ) (gather : Gather) (function tail : List ℕ) (set shaped : List SeriesValue) → IsSummaryStep step → each_of (summarized step gather function tail) set ≡ Ok shaped → All (IsSoLate set step) shaped
summarize_soon step gather function tail set shaped has is =
    each_all (summarized step gather function tail) (IsSoLate set step) set shaped is (λ k d within summary found.
    let s = get_or set k d in
    let same = summary_is step gather function tail s summary found in
    record {
      short = λ all. omega (arith, ap (λ (s : SeriesValue). s.step) same, summary_step step gather function tail s, has.1);
      soon = λ by all. omega (arith, ap (λ (s : SeriesValue). end_of s) same, summary_end step gather function tail s has.0, all k d within);
    })

-- what ends no later ends no later than later
pub so_late_more : (set shaped : List SeriesValue) (late : ℕ) → All (IsSoLate set 0) shaped → All (IsSoLate set late) shaped
so_late_more set shaped late all = All-weaker (IsSoLate set 0) (IsSoLate set late) (λ s is. record { short = is.short; soon = λ by ends. omega (arith, is.soon by ends) }) shaped all

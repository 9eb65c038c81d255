-- The ends of common grids.
use Rattle.std.proofs.Common.{◌≡◌, ℕ, ◌+◌, ◌-◌, ◌*◌, ◌/◌, ◌%◌, ◌<◌, ◌≤◌, min, max, true, List, [], ◌∷◌, length, map, fold, All, inl, inr, sym, ap, subst, ◌∙◌, arith}
use Prim.Native.Nat.{◌∣◌}
use Rattle.std.proofs.Math.Nat.{dvd-mul_left, dvd-sub, dvd_refl, mod-eq-zero_of_dvd, mod-eq_of_lt}
use Rattle.std.specs.Int.{next_multiple_of}
use Rattle.std.specs.List.{list_all}
use Rattle.std.proofs.lemmas.Bool.{cases_lt}
use Rattle.std.proofs.lemmas.Bool.Decides.{nat_tests}
use Rattle.std.proofs.lemmas.List.Elements.{All-head, All-tail}
use Rattle.std.proofs.lemmas.Nat.{div-add-mod', div-mul-add, mod_below, mod-mul-add}
use Rattle.series_set.specs.declared.grid.Grid.{Grid}
use Rattle.series_set.specs.Series.{SeriesValue, end_of, widest_step}
use Rattle.series_set.specs.CommonGrid.{EndsSoonAfter, IsWhole, greatest_end, has_grid, least_start, value_count, widened}

-- ---- the least start and the greatest end

pub fold-min_le : (x : ℕ) (xs : List ℕ) → fold min x xs ≤ x
fold-min_le x [] = omega arith
fold-min_le x (y ∷ ys) = omega (arith, fold-min_le (min x y) ys)

pub le-fold-max : (x : ℕ) (xs : List ℕ) → x ≤ fold max x xs
le-fold-max x [] = omega arith
le-fold-max x (y ∷ ys) = omega (arith, le-fold-max (max x y) ys)

fold-max_le : (by x : ℕ) (set : List SeriesValue) → x ≤ by → All (λ s. end_of s ≤ by) set → fold max x (map end_of set) ≤ by
fold-max_le by x [] here all = here
fold-max_le by x (s ∷ set) here all =
    let first : end_of s ≤ by = All-head (λ (s : SeriesValue). end_of s ≤ by) s set all in
    fold-max_le by (max x (end_of s)) set (omega arith) (All-tail (λ (s : SeriesValue). end_of s ≤ by) s set all)

pub ends_in_order : (set : List SeriesValue) → 0 < length set → least_start set ≤ greatest_end set
ends_in_order [] some = absurd (omega arith)
ends_in_order (s ∷ set) some = omega (arith, fold-min_le s.start (map (λ (s : SeriesValue). s.start) set), le-fold-max (end_of s) (map end_of set))

pub greatest_end_le : (by : ℕ) (set : List SeriesValue) → 0 < length set → All (λ s. end_of s ≤ by) set → greatest_end set ≤ by
greatest_end_le by [] some all = absurd (omega arith)
greatest_end_le by (s ∷ set) some all = fold-max_le by (end_of s) set (All-head (λ (s : SeriesValue). end_of s ≤ by) s set all) (All-tail (λ (s : SeriesValue). end_of s ≤ by) s set all)

-- ---- a grid that a series has

-- what series have that have a grid
pub record Agrees (grid : Grid) (s : SeriesValue) : Type 0 where
  pub start : s.start ≡ grid.start
  pub end : end_of s ≡ grid.end
  pub step : s.step ≡ grid.step

pub agrees : (grid : Grid) (s : SeriesValue) → has_grid grid s ≡ true → Agrees grid s
agrees grid s is =
    let same : (s.start ≡ grid.start) × ((end_of s ≡ grid.end) × (s.step ≡ grid.step)) = grind (arith, nat_tests) in
    record { start = same.0; end = same.1.0; step = same.1.1 }

apart_agreed : (grid : Grid) (s : SeriesValue) → Agrees grid s → grid.end - grid.start ≡ length s.values * grid.step + 0
apart_agreed grid s same = omega (arith, same.start, same.end, ap (λ (n : ℕ). length s.values * n) same.step)

pub count_agreed : (grid : Grid) (s : SeriesValue) → 1 ≤ s.step → Agrees grid s → value_count grid ≡ length s.values
count_agreed grid s some same = ap (λ (n : ℕ). n / grid.step) (apart_agreed grid s same) ∙ div-mul-add (length s.values) grid.step 0 (omega (arith, same.step))

pub own_grid_is : (grid : Grid) (set : List SeriesValue) → 0 < length set → 1 ≤ grid.step → list_all (has_grid grid) set ≡ true → IsWhole grid
own_grid_is grid [] some least all = absurd (omega arith)
own_grid_is grid (s ∷ set) some least all =
    let first : has_grid grid s ≡ true = grind (arith, nat_tests) in
    let same = agrees grid s first in
    record {
      some = least;
      order = omega (arith, same.start, same.end);
      whole = ap (λ (n : ℕ). n % grid.step) (apart_agreed grid s same) ∙ mod-mul-add (length s.values) grid.step 0 least;
    }

-- ---- ends that are rounded outwards

start_divides : (n step : ℕ) → step ∣ n - n % step
start_divides n step = subst (λ (m : ℕ). step ∣ m) (omega (arith, div-add-mod' n step)) (dvd-mul_left step (n / step))

-- the next multiple is less than a step away
pub record IsNext (n step m : ℕ) : Type 0 where
  pub divides : step ∣ m
  pub behind : n ≤ m
  pub near : m < n + step

next_of : (n step times : ℕ) → next_multiple_of n step ≡ times * step → n ≤ next_multiple_of n step → next_multiple_of n step < n + step → IsNext n step (next_multiple_of n step)
next_of n step times is behind near = record { divides = subst (λ (m : ℕ). step ∣ m) (sym is) (dvd-mul_left step times); behind = behind; near = near }

pub next_is : (n step : ℕ) → 1 ≤ step → IsNext n step (next_multiple_of n step)
next_is n step some =
    let product = div-add-mod' n step in
    elim (cases_lt 0 (n % step)) [
      | inl over ↦
          let rest : (step - n % step) % step ≡ step - n % step = mod-eq_of_lt (omega arith) in
          next_of n step (n / step + 1) (omega (arith, product, rest, mod_below n step some)) (omega (arith, rest, mod_below n step some)) (omega (arith, rest))
      | inr none ↦
          let left : n % step ≡ 0 = omega arith in
          let rest : (step - n % step) % step ≡ 0 = ap (λ (r : ℕ). r % step) (let whole : step - n % step ≡ step = omega (arith, left) in whole) ∙ mod-eq-zero_of_dvd step (dvd_refl step) in
          next_of n step (n / step) (omega (arith, product, rest, left)) (omega (arith, rest)) (omega (arith, rest, some))
    ]

pub widened_is : (grid : Grid) → 1 ≤ grid.step → grid.start ≤ grid.end → IsWhole (widened grid)
widened_is grid some order =
    let next = next_is grid.end grid.step some in
    record {
      some = some;
      order = omega (arith, next.behind);
      whole = mod-eq-zero_of_dvd grid.step (dvd-sub grid.step next.divides (start_divides grid.start grid.step));
    }

pub hull_soon : (set : List SeriesValue) (end : ℕ) → 0 < length set → end ≡ greatest_end set → EndsSoonAfter set end
hull_soon set end some is by all = omega (arith, is, greatest_end_le by set some all)

pub widened_soon : (set : List SeriesValue) (grid : Grid) → 0 < length set → 1 ≤ grid.step → grid.step ≤ widest_step → grid.end ≡ greatest_end set → EndsSoonAfter set (widened grid).end
widened_soon set grid some least short is by all = omega (arith, is, greatest_end_le by set some all, (next_is grid.end grid.step least).near)

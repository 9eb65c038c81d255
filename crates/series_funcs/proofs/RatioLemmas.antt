-- Series over series.
use Rattle.std.proofs.Common.{◌≡◌, ℕ, ◌+◌, ◌*◌, ◌<◌, ◌≤◌, true, All, None, Option, ℤ, get_or, Ok, subst, List, [], ◌∷◌, ◌++◌, length, map, refl, sym, ap, arith}
use Rattle.std.specs.List.{range_with_len}
use Rattle.std.proofs.lemmas.List.{length-map}
use Rattle.std.proofs.lemmas.List.Elements.{All-cons, All-get_or, All-head, All-map, All-nil, All-tail}
use Rattle.std.proofs.lemmas.List.FromFn.{length-map-range_with_len, map-range_with_len_more}
use Rattle.series_set.specs.declared.grid.Grid.{Grid}
use Rattle.series_set.specs.Series.{SeriesValue, end_of}
use Rattle.series_set.specs.CommonGrid.{EndsSoonAfter, IsGrid, common_grid, has_grid, value_count}
use Rattle.series_set.specs.OnGrid.{on_grid}
use Rattle.series_set.proofs.GridLemmas.{agrees}
use Rattle.series_set.proofs.OwnGridLemmas.{own_grid_stays}
use Rattle.series_funcs.specs.Combined.{AreCombinable, IsSoonAfter, value_at}
use Rattle.series_funcs.specs.Divided.{divided_on, ratio_of, ratios, undivided}
use Rattle.series_funcs.proofs.ColumnLemmas.{common_step_short, soon_after}

pub length-ratios : (dividend divisor : SeriesValue) (count : ℕ) → length (ratios dividend divisor count) ≡ count
unfolding ratios
length-ratios dividend divisor count = length-map-range_with_len (λ place. ratio_of (value_at place dividend) (value_at place divisor)) 0 count

-- one place more
pub ratios_more : (dividend divisor : SeriesValue) (place : ℕ)
    → map (λ place. ratio_of (value_at place dividend) (value_at place divisor)) (range_with_len 0 place) ++ ratio_of (value_at place dividend) (value_at place divisor) ∷ []
    ≡ map (λ place. ratio_of (value_at place dividend) (value_at place divisor)) (range_with_len 0 (place + 1))
ratios_more dividend divisor place = sym (map-range_with_len_more (λ place. ratio_of (value_at place dividend) (value_at place divisor)) 0 place place (omega arith))

-- a series that has a grid is as it was on it
pub on_own : (s : SeriesValue) (grid : Grid) → 1 ≤ grid.step → has_grid grid s ≡ true → on_grid s grid ≡ s
on_own s grid some is = own_grid_stays s grid (omega (arith, some, (agrees grid s is).step)) is

-- ---- ends and steps

pub divided_soon : (dividend divisor : SeriesValue) (grid : Grid) → IsGrid grid → common_grid (dividend ∷ divisor ∷ []) ≡ Ok grid → EndsSoonAfter (dividend ∷ divisor ∷ []) grid.end
    → IsSoonAfter (dividend ∷ divisor ∷ []) (divided_on dividend divisor grid)
unfolding divided_on
divided_soon dividend divisor grid is found soon =
    soon_after (dividend ∷ divisor ∷ []) grid _ is (common_step_short (dividend ∷ divisor ∷ []) grid found) soon refl refl (length-ratios (on_grid dividend grid) (on_grid divisor grid) (value_count grid))

-- what holds of all holds of those in front, and of the last
all_front : (P : SeriesValue → Type 0) (xs ys : List SeriesValue) → All P (xs ++ ys) → All P xs
all_front P [] ys all = All-nil P
all_front P (x ∷ xs) ys all = All-cons P x xs (All-head P x (xs ++ ys) all) (all_front P xs ys (All-tail P x (xs ++ ys) all))

all_behind : (P : SeriesValue → Type 0) (xs ys : List SeriesValue) → All P (xs ++ ys) → All P ys
all_behind P [] ys all = all
all_behind P (x ∷ xs) ys all = all_behind P xs ys (All-tail P x (xs ++ ys) all)

-- soon after a pair is soon after the lists that the two are from
pub pair_soon : (dividends : List SeriesValue) (i : ℕ) (dividend divisor quotient : SeriesValue) → i < length dividends → dividend ≡ get_or dividends i dividend → IsSoonAfter (dividend ∷ divisor ∷ []) quotient → IsSoonAfter (dividends ++ divisor ∷ []) quotient
pair_soon dividends i dividend divisor quotient within is soon = record {
  short = soon.short;
  soon = λ by all.
      let front = all_front (λ s. end_of s ≤ by) dividends (divisor ∷ []) all in
      let first : end_of dividend ≤ by = subst (λ (s : SeriesValue). end_of s ≤ by) (sym is) (All-get_or (λ s. end_of s ≤ by) dividends i dividend within front) in
      let second = all_behind (λ s. end_of s ≤ by) dividends (divisor ∷ []) all in
      soon.soon by (All-cons (λ s. end_of s ≤ by) dividend (divisor ∷ []) first second);
}

pub undivided_soon : (tail : List ℕ) (dividends divisors : List SeriesValue) → AreCombinable dividends → All (IsSoonAfter (dividends ++ divisors)) (map (undivided tail) dividends)
undivided_soon tail dividends divisors may =
    All-map (IsSoonAfter (dividends ++ divisors)) (undivided tail) dividends (λ k d within. record {
      short = may.short k d within;
      soon = λ by all.
          let end = all_front (λ s. end_of s ≤ by) dividends divisors all k d within in
          let s = get_or dividends k d in
          omega (arith, end, ap (λ (n : ℕ). n * s.step) (length-map {B = Option ℤ} s.values (λ (_ : Option ℤ). None)));
    })

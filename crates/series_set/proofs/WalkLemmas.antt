-- Series one after the other, and the least common multiples of their steps on the way.
use Rattle.std.proofs.Common.{◌≡◌, ◌≤◌, ℕ, true, false, List, [], ◌∷◌, fold, find, Some, None, refl, ◌∙◌}
use Rattle.series_set.specs.Series.{SeriesValue}
use Rattle.series_set.specs.CommonGrid.{is_too_wide, lcm, lcm_of, multiples_from, steps_of, wide_multiple}
use Rattle.series_set.proofs.MultipleLemmas.{lcm_one}

-- how far the way has come: this multiple, and these series are left
pub record Walks (set : List SeriesValue) (step : ℕ) (rest : List SeriesValue) : Type 0 where
  pub wide : wide_multiple (steps_of set) ≡ find is_too_wide (multiples_from step (steps_of rest))
  pub multiple : lcm_of (steps_of set) ≡ fold lcm step (steps_of rest)

pub walks_start : (set : List SeriesValue) → Walks set 1 set
unfolding wide_multiple lcm_of
walks_start set = record { wide = refl; multiple = refl }

pub walks_more : (set : List SeriesValue) (step : ℕ) (s : SeriesValue) (rest : List SeriesValue) → is_too_wide (lcm step s.step) ≡ false → Walks set step (s ∷ rest) → Walks set (lcm step s.step) rest
walks_more set step s rest short so_far = record { wide = so_far.wide ∙ rw short refl; multiple = so_far.multiple }

pub walks_stop : (set : List SeriesValue) (step : ℕ) (s : SeriesValue) (rest : List SeriesValue) → is_too_wide (lcm step s.step) ≡ true → Walks set step (s ∷ rest) → wide_multiple (steps_of set) ≡ Some (lcm step s.step)
walks_stop set step s rest wide so_far = so_far.wide ∙ rw wide refl

pub walks_end : (set : List SeriesValue) (step : ℕ) → Walks set step [] → (wide_multiple (steps_of set) ≡ None) × (lcm_of (steps_of set) ≡ step)
walks_end set step so_far = (so_far.wide, so_far.multiple)

-- ---- two steps

pub pair_fits : (a b : ℕ) → 1 ≤ a → is_too_wide a ≡ false → is_too_wide (lcm a b) ≡ false → wide_multiple (a ∷ b ∷ []) ≡ None
unfolding wide_multiple
pair_fits a b some short fits = let first = lcm_one a some in rw (first, short, fits) refl

pub pair_too_wide : (a b : ℕ) → 1 ≤ a → is_too_wide a ≡ false → is_too_wide (lcm a b) ≡ true → wide_multiple (a ∷ b ∷ []) ≡ Some (lcm a b)
unfolding wide_multiple
pair_too_wide a b some short wide = let first = lcm_one a some in rw (first, short, wide) refl

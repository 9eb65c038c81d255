-- The points of one metric: a map from time to value, as the list of its pairs in rising time.
use Rattle.std.specs.Prelude.{◌≡◌, ◌≢◌, ℕ, ℤ, ◌<◌, ◌≤◌, ◌==◌, nat_lt, Bool, true, false, List, [], ◌∷◌, ◌++◌, filter, length, slice_index_or, slice_set, insert}
use Rattle.std.specs.List.{list_any}

-- the times rise, and all are above this one
abbrev pub RisesAfter : ℕ → List (ℕ × ℤ) → Type 0
RisesAfter time [] = Unit {0}
RisesAfter time (p ∷ ps) = (time < p.0) × RisesAfter p.0 ps

-- each time is above the one before it
abbrev pub IsRising : List (ℕ × ℤ) → Type 0
IsRising [] = Unit {0}
IsRising (p ∷ ps) = RisesAfter p.0 ps

-- whether there is a point at this time
abbrev pub has_time : List (ℕ × ℤ) → ℕ → Bool
has_time points time = list_any (λ p. p.0 == time) points

-- the points with this value at this time: those before it, the point, and those after it
abbrev pub with_point : List (ℕ × ℤ) → ℕ → ℤ → List (ℕ × ℤ)
with_point points time value = filter (λ p. nat_lt p.0 time) points ++ (time, value) ∷ filter (λ p. nat_lt time p.0) points

-- at this place stands the point of the time, so a write there puts a point of the time
pub record IsPlaceOf (points : List (ℕ × ℤ)) (time place : ℕ) : Type 0 where
  pub within : place < length points
  pub there : has_time points time ≡ true
  pub written : (value : ℤ) → slice_set points place (time, value) ≡ with_point points time value
  pub rising : (value : ℤ) → IsRising (slice_set points place (time, value))

-- there is no point of the time, and an insertion at this place puts one
pub record IsPlaceFor (points : List (ℕ × ℤ)) (time place : ℕ) : Type 0 where
  pub within : place ≤ length points
  pub absent : has_time points time ≡ false
  pub inserted : (value : ℤ) → insert points place (time, value) ≡ with_point points time value
  pub rising : (value : ℤ) → IsRising (insert points place (time, value))

-- the place of a time, or for it, by the time of the point that stands there
pub record PutsAt (points : List (ℕ × ℤ)) (place time : ℕ) : Type 0 where
  pub here : (d : ℕ × ℤ) → place < length points → (slice_index_or points place d).0 ≡ time → IsPlaceOf points time place
  pub other : (place < length points → (d : ℕ × ℤ) → (slice_index_or points place d).0 ≢ time) → IsPlaceFor points time place

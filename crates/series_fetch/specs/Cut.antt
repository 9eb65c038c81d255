-- Where points in rising time are cut by a time.
use Rattle.std.specs.Prelude.{ℕ, ℤ, ◌<◌, ◌≤◌, List, length}
use Rattle.std.specs.List.{AllWithin}

-- so many points are before a time, and the others are not
pub record IsCut (points : List (ℕ × ℤ)) (time count : ℕ) : Type 0 where
  pub within : count ≤ length points
  pub before : AllWithin (λ p. p.0 < time) points 0 count
  pub behind : AllWithin (λ p. time ≤ p.0) points count (length points)

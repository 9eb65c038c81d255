-- What holds of a value that is picked from known values in order of time.
use Rattle.std.specs.Prelude.{◌≡◌, ◌≤◌, ◌==◌, ◌≤ℤ◌, ℕ, ℤ, Bool, List, [], All, MatchOption, Some, unsigned_abs}
use Rattle.std.specs.List.{Contains, find}
use Rattle.ring_format.specs.declared.archive.Method.{Method}
use Rattle.rollup.specs.Rollup.{rolled}

-- whether a value is as far from zero as v
abbrev pub is_as_far : ℤ → ℤ → Bool
is_as_far v other = unsigned_abs other == unsigned_abs v

-- v is a known value, none is greater
pub record IsGreatest (known : List ℤ) (v : ℤ) : Type 0 where
  pub member : Contains known v
  pub bound : All (λ other. other ≤ℤ v) known

-- v is a known value, none is less
pub record IsLeast (known : List ℤ) (v : ℤ) : Type 0 where
  pub member : Contains known v
  pub bound : All (λ other. v ≤ℤ other) known

-- v is a known value, none is farther from zero, and of those as far it is the earliest
pub record IsFarthest (known : List ℤ) (v : ℤ) : Type 0 where
  pub member : Contains known v
  pub bound : All (λ other. unsigned_abs other ≤ unsigned_abs v) known
  pub earliest : find (is_as_far v) known ≡ Some v

-- v is a known value, none is nearer to zero, and of those as near it is the earliest
pub record IsNearest (known : List ℤ) (v : ℤ) : Type 0 where
  pub member : Contains known v
  pub bound : All (λ other. unsigned_abs v ≤ unsigned_abs other) known
  pub earliest : find (is_as_far v) known ≡ Some v

-- a method gives a value as P says, and none exactly where no value is known
abbrev pub Picks : Method → (List ℤ → ℤ → Type 0) → Type 0
Picks method P = (known : List ℤ) (all : ℕ) → MatchOption (rolled method known all) (known ≡ []) (P known)

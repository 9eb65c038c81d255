-- The metrics that a pattern finds.
use Rattle.std.specs.Prelude.{◌≢◌, ◌↔◌, ◌⊎◌, ℕ, List, [], Contains, IsSome}
use Rattle.std.specs.List.Sorted.{IsStrictlySortedBy}
use Rattle.std.specs.Ordering.{nat_cmp}
use Rattle.std.specs.Cmp.Lexicographic.{slice_cmp}
use Rattle.carbon_model.specs.State.{State, points_in}

-- a path that a question can find: it has pending points, or something is kept of it
abbrev pub IsKnown : State → List ℕ → Type 0
IsKnown s path = (points_in s path ≢ []) ⊎ IsSome (s.kept path)

-- all such paths that fit, in byte order, each once
pub record Finds (s : State) (fits : List ℕ → Type 0) (paths : List (List ℕ)) : Type 0 where
  pub in_order : IsStrictlySortedBy (slice_cmp nat_cmp) paths
  pub found : (path : List ℕ) → Contains paths path ↔ (fits path × IsKnown s path)

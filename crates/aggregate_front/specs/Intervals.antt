-- Open intervals in rising order.
use Rattle.std.specs.Prelude.{ℕ, zero, suc, ◌-◌, ◌==◌, ◌<◌, Bool, false, nat_lt, List, [], ◌∷◌, ◌++◌, filter, length, slice_get, take}
use Rattle.std.specs.List.{find, list_any}
use Rattle.std.specs.Option.{option_map_or}
use Rattle.aggregate_front.specs.declared.timed_value.TimedValue.{TimedValue}
use Rattle.aggregate_front.specs.declared.interval.Interval.{Interval}

-- an interval that starts then is open
abbrev pub is_open : List Interval → ℕ → Bool
is_open held start = list_any (λ i. i.start == start) held

-- whether an interval that starts then stands at a place
abbrev pub is_start_at : List Interval → ℕ → ℕ → Bool
is_start_at held at start = option_map_or (λ i. i.start == start) (slice_get held at) false

-- the points of an open interval: none where it is not open
abbrev pub points_at : List Interval → ℕ → List TimedValue
points_at held start = option_map_or (λ i. i.points) (find (λ i. i.start == start) held) []

-- The intervals with one more point, which joins its own, and opens it where it is not open: those before, its own, and those behind.
unfoldable pub with_point : List Interval → ℕ → TimedValue → List Interval
with_point held start point =
    filter (λ i. nat_lt i.start start) held
    ++ record { start = start; points = points_at held start ++ point ∷ [] } ∷ filter (λ i. nat_lt start i.start) held

-- each interval starts later than the one before it, and the first later than this
abbrev pub RisesAfter : ℕ → List Interval → Type 0
RisesAfter start [] = Unit {0}
RisesAfter start (i ∷ is) = (start < i.start) × RisesAfter i.start is

-- the intervals with one more point at a place, and without the last one there
abbrev pub with_last : TimedValue → Interval → Interval
with_last point i = record i { points = i.points ++ point ∷ [] }

abbrev pub without_last : Interval → Interval
without_last i = record i { points = take (length i.points - 1) i.points }

-- the intervals, with another in the place of one
abbrev pub at_place : (Interval → Interval) → List Interval → ℕ → List Interval
at_place f [] at = []
at_place f (i ∷ is) zero = f i ∷ is
at_place f (i ∷ is) (suc at) = i ∷ at_place f is at

abbrev pub joined : List Interval → ℕ → TimedValue → List Interval
joined held at point = at_place (with_last point) held at

abbrev pub parted : List Interval → ℕ → List Interval
parted held at = at_place without_last held at

-- The pending points: metrics in the order in which each got its first pending point, each a path and its points, of which it has
-- at least one. A cache holds them up to a limit.
use Rattle.std.specs.Prelude.{◌≡◌, ℕ, ℤ, ◌+◌, ◌<◌, ◌≤◌, true, false, List, [], ◌∷◌, Option, Some, length, map, position, slice_get, swap_remove, unwrap_or}
use Rattle.std.specs.Str.{bytes_eq}
use Rattle.std.specs.List.{sum_by}
use Rattle.std.specs.Map.{keys_of, lookup, remove_entry}
use Rattle.indexmap.specs.IndexMap.{insert_entry}
use Rattle.indexmap.specs.IndexSet.{insert_key}
use Rattle.point_cache.specs.Points.{has_time, with_point}
use Rattle.point_cache.specs.declared.put.Put.{Put}
use Rattle.point_cache.specs.declared.put.Put.TheVariants.{Stored, Replaced, Full, NoMemory}

-- metrics with pending points, in order of arrival: each a path and its points in rising time
abbrev pub Metrics : Type 0
Metrics = List (List ℕ × List (ℕ × ℤ))

-- the metrics, and which path stands at each place: a permutation of their paths
pub record Placed : Type 0 where
  pub metrics : Metrics
  pub places : List (List ℕ)

-- how many points may be pending, the metrics that have some, and which path stands at each place
pub record Cache : Type 0 where
  pub limit : ℕ
  pub metrics : Metrics
  pub places : List (List ℕ)

-- the paths, in order of arrival
abbrev pub paths_of : Metrics → List (List ℕ)
paths_of metrics = keys_of metrics

-- the place of a path in order of arrival, `None` where it is not there
abbrev pub place_of : Metrics → List ℕ → Option ℕ
place_of metrics path = position (bytes_eq path) (paths_of metrics)

-- these are all places, in the order in which their metrics arrived
abbrev pub IsArrivalOrder : Metrics → List (List ℕ) → List ℕ → Type 0
IsArrivalOrder metrics places order = map (slice_get places) order ≡ map Some (paths_of metrics)

-- the pending points of a path, none where it is not there
abbrev pub points_of : Metrics → List ℕ → List (ℕ × ℤ)
points_of metrics path = unwrap_or (lookup (bytes_eq path) metrics) []

-- these are the points of the metric at a place
abbrev pub ArePointsAt : Cache → ℕ → List (ℕ × ℤ) → Type 0
ArePointsAt cache place points = (path : List ℕ) → slice_get cache.places place ≡ Some path → points ≡ points_of cache.metrics path

-- how many points are pending in all
abbrev pub points_count : Metrics → ℕ
points_count metrics = sum_by (λ m. length m.1) metrics

-- each metric has a point
abbrev pub EachHasPoints : Metrics → Type 0
EachHasPoints [] = Unit {0}
EachHasPoints (m ∷ ms) = (0 < length m.1) × EachHasPoints ms

-- the metrics with one more point, or another value at a time that is there: a path without pending points goes last
abbrev pub with_put : Metrics → List ℕ → ℕ → ℤ → Metrics
with_put metrics path time value = insert_entry bytes_eq metrics path (with_point (points_of metrics path) time value)

-- by how many points a put raises their number
abbrev pub added : Put → ℕ
added Stored = 1
added _ = 0

-- What a put of a point makes of one metric's points: the point is stored where its time was not there, and else its value replaces
-- the one that was there. Want of memory, which no replacement meets, changes nothing. There is no limit here.
abbrev pub PutsPoint : List (ℕ × ℤ) → List (ℕ × ℤ) → ℕ → ℤ → Put → Type 0
PutsPoint old new time value Stored = (has_time old time ≡ false) × (new ≡ with_point old time value)
PutsPoint old new time value Replaced = (has_time old time ≡ true) × (new ≡ with_point old time value)
PutsPoint old new time value Full = ⊥
PutsPoint old new time value NoMemory = (has_time old time ≡ false) × (new ≡ old)

-- the same where no new point has room: only a replacement changes the points
abbrev pub ReplacesPoint : List (ℕ × ℤ) → List (ℕ × ℤ) → ℕ → ℤ → Put → Type 0
ReplacesPoint old new time value Stored = ⊥
ReplacesPoint old new time value Replaced = (has_time old time ≡ true) × (new ≡ with_point old time value)
ReplacesPoint old new time value Full = (has_time old time ≡ false) × (new ≡ old)
ReplacesPoint old new time value NoMemory = ⊥

-- whether one more point may be pending
abbrev pub HasRoom : Cache → Type 0
HasRoom cache = points_count cache.metrics < cache.limit

-- the cache after a point is stored or replaced: a new path gets the last place
abbrev pub after_put : Cache → List ℕ → ℕ → ℤ → Cache
after_put cache path time value =
    record cache { metrics = with_put cache.metrics path time value; places = insert_key bytes_eq cache.places path }

-- the cache after the metric at a place is taken: the path at the last place moves there
abbrev pub after_take : Cache → ℕ → List ℕ → Cache
after_take cache place path =
    record cache { metrics = remove_entry (bytes_eq path) cache.metrics; places = swap_remove cache.places place path }

-- What a put of a point makes of a cache. A new point is stored where it has room, and is refused where the cache is full, which
-- changes nothing. A time that is there gets the new value, full or not. Want of memory, which no replacement meets, changes nothing.
abbrev pub Puts : Cache → Cache → List ℕ → ℕ → ℤ → Put → Type 0
Puts old new path time value Stored =
    (has_time (points_of old.metrics path) time ≡ false) × (HasRoom old × (new ≡ after_put old path time value))
Puts old new path time value Replaced =
    (has_time (points_of old.metrics path) time ≡ true) × (new ≡ after_put old path time value)
Puts old new path time value Full =
    (has_time (points_of old.metrics path) time ≡ false) × ((old.limit ≤ points_count old.metrics) × (new ≡ old))
Puts old new path time value NoMemory =
    (has_time (points_of old.metrics path) time ≡ false) × (HasRoom old × (new ≡ old))

-- the metrics and their places after a point is stored or replaced
abbrev pub placed_put : Placed → List ℕ → ℕ → ℤ → Placed
placed_put placed path time value =
    record { metrics = with_put placed.metrics path time value; places = insert_key bytes_eq placed.places path }

-- what a put makes of the metrics, when one more point has room
abbrev pub PutsMetric : Placed → Placed → List ℕ → ℕ → ℤ → Put → Type 0
PutsMetric old new path time value Stored = (has_time (points_of old.metrics path) time ≡ false) × (new ≡ placed_put old path time value)
PutsMetric old new path time value Replaced = (has_time (points_of old.metrics path) time ≡ true) × (new ≡ placed_put old path time value)
PutsMetric old new path time value Full = ⊥
PutsMetric old new path time value NoMemory = (has_time (points_of old.metrics path) time ≡ false) × (new ≡ old)

-- and when none has
abbrev pub ReplacesMetric : Placed → Placed → List ℕ → ℕ → ℤ → Put → Type 0
ReplacesMetric old new path time value Stored = ⊥
ReplacesMetric old new path time value Replaced = (has_time (points_of old.metrics path) time ≡ true) × (new ≡ placed_put old path time value)
ReplacesMetric old new path time value Full = (has_time (points_of old.metrics path) time ≡ false) × (new ≡ old)
ReplacesMetric old new path time value NoMemory = ⊥

-- the number of points grew by what was put, and still each metric has a point
pub record Counts (old new : Metrics) (put : Put) : Type 0 where
  pub count : points_count new ≡ points_count old + added put
  pub each : EachHasPoints old → EachHasPoints new

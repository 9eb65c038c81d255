-- Which of the metrics with pending points is drained next, by each strategy.
use Rattle.std.specs.Prelude.{◌≡◌, ℕ, ℤ, false, List, [], ◌∷◌, Option, None, Some, if◌then◌else◌, drop, length, slice_get, IsSome}
use Rattle.std.specs.List.{All, Contains, best_of}
use Rattle.std.specs.List.Sorted.{IsPermutation, IsSorted}
use Rattle.std.specs.Option.{option_map}
use Rattle.std.specs.declared.cmp.Ordering.{Ordering}
use Rattle.std.specs.Ordering.{flip_args, is_lt, nat_cmp, on, then_cmp}
use Rattle.std.specs.Cmp.Lexicographic.{slice_cmp}
use Rattle.point_cache.specs.Pending.{Metrics, paths_of, place_of}
use Rattle.drain_order.specs.declared.strategy.Strategy.{Strategy}
use Rattle.drain_order.specs.declared.strategy.Strategy.TheVariants.{Max, Sorted, TimeSorted, Naive}

-- a metric with pending points: its path and its points in rising time
abbrev pub Metric : Type 0
Metric = List ℕ × List (ℕ × ℤ)

-- the time of the oldest of points in rising time
abbrev pub oldest : List (ℕ × ℤ) → ℕ
oldest [] = 0
oldest (p ∷ ps) = p.0

-- by the bytes of the path
abbrev pub by_path : Metric → Metric → Ordering
by_path = on (λ m. m.0) (slice_cmp nat_cmp)

-- most points first, and then by path
abbrev pub by_count : Metric → Metric → Ordering
by_count = then_cmp (flip_args (on (λ m. length m.1) nat_cmp)) by_path

-- the oldest point first, and then by path
abbrev pub by_age : Metric → Metric → Ordering
by_age = then_cmp (on (λ m. oldest m.1) nat_cmp) by_path

-- the metric before which no other goes
abbrev pub first_by : (Metric → Metric → Ordering) → Metrics → Option Metric
first_by order [] = None
first_by order (m ∷ ms) = Some (best_of (λ a b. is_lt (order a b)) m ms)

-- the metrics with one more, before the first that does not go before it
abbrev pub insert_by : (Metric → Metric → Ordering) → Metric → Metrics → Metrics
insert_by order m [] = m ∷ []
insert_by order m (x ∷ xs) = if is_lt (order x m) then x ∷ insert_by order m xs else m ∷ x ∷ xs

-- the metrics in an order
abbrev pub sorted_by : (Metric → Metric → Ordering) → Metrics → Metrics
sorted_by order [] = []
sorted_by order (m ∷ ms) = insert_by order m (sorted_by order ms)

-- the queue, or, where that is empty, all paths by falling number of points and then by path
abbrev pub queue_now : List (List ℕ) → Metrics → List (List ℕ)
queue_now [] metrics = paths_of (sorted_by by_count metrics)
queue_now (path ∷ paths) metrics = path ∷ paths

-- The path of the metric that is drained next, given the queue and the pending metrics in order of arrival: `max` picks the one with
-- most points, `sorted` the first of the queue, `timesorted` the one with the oldest point, `naive` the first.
abbrev pub pick : Strategy → List (List ℕ) → Metrics → Option (List ℕ)
pick Max queue metrics = option_map (λ m. m.0) (first_by by_count metrics)
pick Sorted queue metrics = slice_get (queue_now queue metrics) 0
pick TimeSorted queue metrics = option_map (λ m. m.0) (first_by by_age metrics)
pick Naive queue metrics = slice_get (paths_of metrics) 0

-- the queue once that pick is used: only `sorted` has one
abbrev pub queue_after : Strategy → List (List ℕ) → Metrics → List (List ℕ)
queue_after Sorted queue metrics = drop 1 (queue_now queue metrics)
queue_after _ queue metrics = queue

-- every path of the queue has pending points
abbrev pub AllPending : List (List ℕ) → Metrics → Type 0
AllPending queue metrics = All (λ path. IsSome (place_of metrics path)) queue

-- For the laws: this path is that of a metric before which no other goes.
pub record IsFirst (order : Metric → Metric → Ordering) (metrics : Metrics) (path : List ℕ) : Type 0 where
  pub metric : Metric
  pub named : metric.0 ≡ path
  pub among : Contains metrics metric
  pub first : All (λ other. is_lt (order other metric) ≡ false) metrics

-- These are the paths of all the metrics, in this order.
pub record IsInOrder (order : Metric → Metric → Ordering) (metrics : Metrics) (paths : List (List ℕ)) : Type 0 where
  pub ordered : Metrics
  pub paths_of_them : paths ≡ paths_of ordered
  pub all : IsPermutation metrics ordered
  pub order_kept : IsSorted order ordered

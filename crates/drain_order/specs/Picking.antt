-- A picker: its strategy, its queue, the paths that it knows to have arrived first, and what its queue is once the last pick is settled.
use Rattle.std.specs.Prelude.{◌≡◌, ℕ, ◌<◌, List, [], Option, None, Some, drop, length, slice_get, take}
use Rattle.std.specs.Map.{remove_entry}
use Rattle.std.specs.Str.{bytes_eq}
use Rattle.point_cache.specs.Pending.{Cache, Metrics, paths_of}
use Rattle.drain_order.specs.Pick.{AllPending, pick, queue_after}
use Rattle.drain_order.specs.declared.strategy.Strategy.{Strategy}
use Rattle.drain_order.specs.declared.strategy.Strategy.TheVariants.{Sorted, Naive}

-- `settled` is `None` where no pick waits to be settled
pub record Picking : Type 0 where
  pub strategy : Strategy
  pub queue : List (List ℕ)
  pub arrived : List (List ℕ)
  pub settled : Option (List (List ℕ))

-- The pending metrics are those that a picker has followed so far: every path of its queue is pending, and the paths that it knows
-- to have arrived first did.
pub record Follows (picking : Picking) (metrics : Metrics) : Type 0 where
  pub pending : AllPending picking.queue metrics
  pub first : take (length picking.arrived) (paths_of metrics) ≡ picking.arrived

-- this is the place of the metric with the path that is picked, `None` where none is
abbrev pub TellsPick : Cache → Option ℕ → Option (List ℕ) → Type 0
TellsPick cache None picked = picked ≡ None
TellsPick cache (Some place) picked = (place < length cache.places) × (slice_get cache.places place ≡ picked)

-- what the queue is once the pick is settled, where there is one
abbrev pub settled_after : Picking → Metrics → Option ℕ → Option (List (List ℕ))
settled_after picking metrics None = picking.settled
settled_after picking metrics (Some place) = Some (queue_after picking.strategy picking.queue metrics)

-- the picker once its pick is settled, with this queue
abbrev pub settled_with : Picking → List (List ℕ) → Picking
settled_with picking queue = record { strategy = picking.strategy; queue = queue; arrived = drop 1 picking.arrived; settled = None }

-- A pick tells the place of the metric that the strategy picks, and does not use it: the queue stays, and the picker follows the same
-- metrics. Once the metric is taken and the pick is settled, it follows those that are left.
pub record Picks (old new : Picking) (cache : Cache) (place : Option ℕ) : Type 0 where
  pub told : TellsPick cache place (pick old.strategy old.queue cache.metrics)
  pub strategy : new.strategy ≡ old.strategy
  pub queue : new.queue ≡ old.queue
  pub settled : new.settled ≡ settled_after old cache.metrics place
  pub follows : Follows new cache.metrics
  pub rest : (path : List ℕ) → pick old.strategy old.queue cache.metrics ≡ Some path
      → Follows (settled_with new (queue_after old.strategy old.queue cache.metrics)) (remove_entry (bytes_eq path) cache.metrics)

-- only `sorted` has a queue, and only `naive` keeps which paths arrived first
abbrev pub HasQueues : Strategy → List (List ℕ) → List (List ℕ) → Type 0
HasQueues Sorted queue arrived = arrived ≡ []
HasQueues Naive queue arrived = queue ≡ []
HasQueues _ queue arrived = (queue ≡ []) × (arrived ≡ [])

-- What holds of every state that a run reaches.
use Rattle.std.specs.Prelude.{◌≡◌, ◌≢◌, ℕ, ◌<◌, List, [], length, None, IsSome}
use Rattle.std.specs.List.{All, IsDistinct}
use Rattle.std.specs.Str.{bytes_eq}
use Rattle.metric_path.specs.Path.{path_fault}
use Rattle.point_cache.specs.Pending.{paths_of}
use Rattle.drain_order.specs.Pick.{AllPending, Metric}
use Rattle.drain_order.specs.declared.strategy.Strategy.{Strategy}
use Rattle.drain_order.specs.declared.strategy.Strategy.TheVariants.{Sorted}
use Rattle.carbon_model.specs.RingFiles.{IsOfClass}
use Rattle.carbon_model.specs.State.{Metrics, State}

-- a metric that is pending in a class: it has a legal path of the class, and a point
pub record IsPendingIn (class : ℕ) (metric : Metric) : Type 0 where
  pub path : IsOfClass class metric.0
  pub points : 0 < length metric.1

-- What is pending in a class, and the queue of the class: no two metrics have one path. Only `sorted` has a queue, in which each path is
-- pending and stands once.
pub record IsSoundPart (class : ℕ) (strategy : Strategy) (queue : List (List ℕ)) (metrics : Metrics) : Type 0 where
  pub pending : All (IsPendingIn class) metrics
  pub apart : IsDistinct bytes_eq (paths_of metrics)
  pub sorted : queue ≢ [] → strategy ≡ Sorted
  pub queued : AllPending queue metrics
  pub once : IsDistinct bytes_eq queue

-- all classes are so, and what is kept has a legal path
pub record IsSound (s : State) : Type 0 where
  pub parts : (class : ℕ) → IsSoundPart class s.strategy (s.queue class) (s.pending class)
  pub kept : (path : List ℕ) → IsSome (s.kept path) → path_fault path ≡ None

-- The queue as the metrics that wait in it.
use Rattle.std.specs.Prelude.{ℕ, List, length, map}
use Rattle.drain_order.specs.Pick.{Metric}
use Rattle.drain_order.specs.declared.waiting.Waiting.{Waiting}

-- a metric as the queue sees it
abbrev pub waiting_of : Metric → Waiting
waiting_of metric = record { count = length metric.1; path = metric.0 }

-- their paths
abbrev pub waiting_paths : List Waiting → List (List ℕ)
waiting_paths waiting = map (λ w. w.path) waiting

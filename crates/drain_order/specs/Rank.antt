-- The first of all metrics by a rank.
use Rattle.std.specs.Prelude.{ℕ, [], Option, List, map, option_map, slice_index_or}
use Rattle.std.specs.declared.cmp.Ordering.{Ordering}
use Rattle.point_cache.specs.Pending.{Cache, Metrics, points_of}
use Rattle.drain_order.specs.Pick.{Metric, by_age, by_count, first_by}
use Rattle.drain_order.specs.declared.rank.Rank.{Rank}
use Rattle.drain_order.specs.declared.rank.Rank.TheVariants.{Count, Age}
use Rattle.drain_order.specs.declared.strategy.Strategy.{Strategy}
use Rattle.drain_order.specs.declared.strategy.Strategy.TheVariants.{Max, TimeSorted}

-- the metrics by their places
abbrev pub by_place : Cache → Metrics
by_place cache = map (λ path. (path, points_of cache.metrics path)) cache.places

-- the metric at a place
abbrev pub metric_at : Cache → ℕ → Metric
metric_at cache place = slice_index_or (by_place cache) place ([], [])

-- the order of a rank, and the strategy that picks by it
abbrev pub order_of : Rank → Metric → Metric → Ordering
order_of Count = by_count
order_of Age = by_age

abbrev pub strategy_of : Rank → Strategy
strategy_of Count = Max
strategy_of Age = TimeSorted

-- the path of the first metric by a rank
abbrev pub first_path : Rank → Metrics → Option (List ℕ)
first_path rank metrics = option_map (λ m. m.0) (first_by (order_of rank) metrics)

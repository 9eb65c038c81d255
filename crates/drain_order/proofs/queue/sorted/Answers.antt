use Rattle.drain_order.specs.Rank.{by_place}
use Rattle.drain_order.proofs.MetricLemmas.{placed_all}
use Rattle.drain_order.proofs.QueueLemmas.{sorted_paths}
use Rattle.drain_order.proofs.queue.sorted.Goals as goal

pub returns-clause-paths : goal.returns-clause-paths
returns-clause-paths c =
    sorted_paths c.args.cache.now.metrics (by_place c.args.cache.now) c.sort_unstable.new.self.items (placed_all c.args.cache.now c.in_ok-all.ensures.placed c.in_ok-all.ensures.once)
    (rw c.in_ok-all.ensures.all at c.sort_unstable.ensures.permutation) c.sort_unstable.ensures.sorted

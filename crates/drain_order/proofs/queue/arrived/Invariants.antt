use Rattle.std.proofs.Common.{◌≡◌, take}
use Rattle.point_cache.specs.Pending.{paths_of}
use Rattle.drain_order.specs.Queue.{waiting_paths}
use Rattle.drain_order.proofs.queue.arrived.Given as goal

-- those before the index
abbrev pub invariant-loop-index : goal.invariant-loop-index
invariant-loop-index l = waiting_paths l.all.items ≡ take l.index (paths_of l.cache.metrics)

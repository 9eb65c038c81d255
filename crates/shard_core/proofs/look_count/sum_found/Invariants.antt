use Rattle.std.proofs.Common.{take}
use Rattle.shard_core.specs.Looks.{CountsFound}
use Rattle.shard_core.proofs.look_count.sum_found.Given as goal

abbrev pub invariant-loop-metric : goal.invariant-loop-metric
invariant-loop-metric l = CountsFound l.now l.from l.until (take l.metric-index l.found) l.count

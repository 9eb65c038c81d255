use Rattle.std.proofs.Common.{ap, length}
use Rattle.drain_order.proofs.MetricLemmas.{points_at_place}
use Rattle.drain_order.proofs.rank.count_at.Goals as goal

pub returns : goal.returns
returns c = ap length (points_at_place c.args.cache.now c.args.place c.points.result.now c.requires c.points.ensures.points)

use Rattle.std.proofs.Common.{◌∙◌, ap}
use Rattle.drain_order.specs.Pick.{oldest}
use Rattle.drain_order.proofs.MetricLemmas.{oldest_at_front, points_at_place}
use Rattle.drain_order.proofs.rank.oldest_at.Goals as goal

pub returns : goal.returns
returns c =
    oldest_at_front c.points.result.now _ c.points.ensures.some
    ∙ ap oldest (points_at_place c.args.cache.now c.args.place c.points.result.now c.requires c.points.ensures.points)

use Rattle.std.proofs.Common.{[], sym}
use Rattle.std.proofs.lemmas.Option.{slice_get-get_or}
use Rattle.point_cache.proofs.PendingLemmas.{some_points}
use Rattle.point_cache.proofs.cache.PointCache.points.Goals as goal

pub returns-clause-some : goal.returns-clause-some
returns-clause-some c =
    let within = rw (sym c.self.view_is) at c.requires in
    let its = c.points.ensures _ (slice_get-get_or c.self.inside.metrics.places c.args.place [] within) in
    rw c.list.ensures.list (some_points c.self.inside.metrics.metrics _ _ its c.self.invariant.1.1)

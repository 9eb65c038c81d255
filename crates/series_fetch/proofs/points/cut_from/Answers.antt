use Rattle.series_fetch.proofs.CutLemmas.{cut_here}
use Rattle.series_fetch.proofs.points.cut_from.Goals as goal

pub returns-then-time-points-clause-cut : goal.returns-then-time-points-clause-cut
returns-then-time-points-clause-cut c = cut_here c.args.points.now c.args.time c.loop-place.place c.index-points-place.result c.requires.rising c.loop-place-test.true c.loop-place.invariant c.if-time-points.true

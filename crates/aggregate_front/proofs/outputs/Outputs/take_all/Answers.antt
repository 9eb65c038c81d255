use Rattle.aggregate_front.proofs.HeldLemmas.{feeds_more}
use Rattle.aggregate_front.proofs.outputs.Outputs.take_all.Goals as goal

pub loop-hit-preserved : goal.loop-hit-preserved
loop-hit-preserved c = record {
  feeds = feeds_more _ _ _ c.args.point.now c.args.hits.now c.loop-hit.hit-index c.hit-item.result _ _ _ c.loop-hit-test.true c.hit-item.is c.loop-hit.invariant.feeds c.in_ok-take_next.ensures.ok;
  did = c.take_next.ensures.did _ c.loop-hit.invariant.did;
}

use Rattle.ring_archive.proofs.PickedLemmas.{picked_more, place_more}
use Rattle.ring_archive.proofs.cells.laid_values.Goals as goal

pub loop-k-preserved : goal.loop-k-preserved
loop-k-preserved c =
    (picked_more c.args.patch.now.cells c.args.round c.args.bytes.now c.args.first c.args.step c.loop-k.k c.loop-k.place c.picked_value-picked.result.value c.loop-k.values.items _ c.loop-k.invariant.1 c.picked_value-picked.ensures c.loop-k.invariant.0 c.in_ok-push.ensures.items, place_more c.loop-k.k c.loop-k.place c.place_behind-place.result c.args.round.points c.loop-k.invariant.1 c.place_behind-place.ensures)

use Rattle.std.proofs.Common.{arith, rules}
use Rattle.ring_archive.proofs.StaleLemmas.{block_added, blocks_begun}
use Rattle.ring_archive.proofs.stale.held_slots.Goals as goal

pub loop-end-init : goal.loop-end-init
loop-end-init c = (omega arith, blocks_begun c.args.version _ c.args.bytes.now (search rules))

pub loop-end-preserved : goal.loop-end-preserved
loop-end-preserved c =
    (omega (arith, c.min-end.ensures), block_added c.args.version _ _ c.args.bytes.now c.loop-end.end c.min-end.result c.loop-end.invariant.1 c.in_ok-add_block.ensures)

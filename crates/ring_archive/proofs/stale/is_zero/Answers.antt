use Rattle.ring_archive.proofs.StaleLemmas.{zeros_more}
use Rattle.ring_archive.proofs.stale.is_zero.Goals as goal

pub loop-byte-preserved : goal.loop-byte-preserved
loop-byte-preserved c = zeros_more c.args.bytes.now c.loop-byte.byte-index c.loop-byte.bits c.loop-byte-test.true c.loop-byte.invariant

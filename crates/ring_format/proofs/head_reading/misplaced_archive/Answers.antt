use Rattle.std.proofs.Common.{sym, ◌∙◌}
use Rattle.ring_format.proofs.HeadLemmas.{misplaced_at, placed_everywhere}
use Rattle.ring_format.proofs.head_reading.misplaced_archive.Goals as goal

pub returns-then-from-offset : goal.returns-then-from-offset
returns-then-from-offset c =
    sym (misplaced_at c.args.version c.args.bytes.now c.args.archives.now c.loop-i.i c.loop-i.offset c.loop-i-test.true c.loop-i.invariant.here c.loop-i.invariant.before
    (λ same. c.if-from-offset.true (c.from.ensures ∙ c.number_at.ensures ∙ same)))

pub returns : goal.returns
returns c = sym (placed_everywhere c.args.version c.args.bytes.now c.args.archives.now c.loop-i.i (c.loop-i-test.false) c.loop-i.invariant.before)

use Rattle.std.proofs.Common.{sym, ◌∙◌, arith}
use Rattle.time_range.proofs.SpanLemmas.{ends_here, ends_last, goes_on}
use Rattle.time_range.proofs.spans.first_length.Goals as goal

pub returns-then-is_seam-clause-value : goal.returns-then-is_seam-clause-value
returns-then-is_seam-clause-value c =
    let one = ends_here c.args.text.now c.loop-at.at c.loop-at-test.true (sym c.is_seam.ensures ∙ c.if-is_seam.true) in
    omega (arith, one, c.loop-at.invariant.same)

pub loop-at-preserved : goal.loop-at-preserved
loop-at-preserved c =
    let more = goes_on c.args.text.now c.loop-at.at c.loop-at-test.true (sym c.is_seam.ensures ∙ c.if-is_seam.false) in
    record { same = omega (arith, more, c.loop-at.invariant.same); within = c.loop-at-test.true }

pub returns-clause-value : goal.returns-clause-value
returns-clause-value c =
    let last = ends_last c.args.text.now c.loop-at.at (omega (arith, c.loop-at-test.false, c.loop-at.invariant.within)) in
    omega (arith, last, c.loop-at.invariant.same, c.loop-at-test.false, c.loop-at.invariant.within)

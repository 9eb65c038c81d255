use Rattle.std.proofs.Common.{arith}
use Rattle.fixed_num.proofs.DigitLemmas.{number_more}
use Rattle.time_range.proofs.spans.number_of.Goals as goal

pub loop-digit-preserved : goal.loop-digit-preserved
loop-digit-preserved c =
    let more = number_more c.args.digits.now c.loop-digit.digit-index c.requires c.loop-digit-test.true in
    omega (arith, more, c.loop-digit.invariant, c.from.ensures, c.cut-number.ensures)

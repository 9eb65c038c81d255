use Rattle.std.proofs.Common.{arith}
use Rattle.fixed_num.proofs.DigitLemmas.{digits_value_after_more}
use Rattle.fixed_num.proofs.digits.capped_number_after.Goals as goal

pub loop-digit-preserved : goal.loop-digit-preserved
loop-digit-preserved c =
    let more = digits_value_after_more c.args.start c.args.digits.now c.loop-digit.digit-index c.requires.digits c.loop-digit-test.true in
    omega (arith, more, c.loop-digit.invariant, c.saturating_mul.ensures, c.saturating_add-number.ensures, c.from.ensures)

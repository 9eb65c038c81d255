use Rattle.std.proofs.Common.{◌+◌, length, arith}
use Rattle.fixed_num.proofs.DigitLemmas.{number_more, front_below}
use Rattle.fixed_num.proofs.digits.number.Goals as goal

pub overflow_mul-number : goal.overflow_mul-number
overflow_mul-number c =
    omega (
      arith,
      c.loop-digit.invariant,
      front_below c.args.digits.now (c.loop-digit.digit-index + 1) 19 c.requires.digits c.requires.few,
      number_more c.args.digits.now c.loop-digit.digit-index c.requires.digits c.loop-digit-test.true,
    )

pub overflow_add-number : goal.overflow_add-number
overflow_add-number c =
    omega (
      arith,
      c.loop-digit.invariant,
      c.from.ensures,
      front_below c.args.digits.now (c.loop-digit.digit-index + 1) 19 c.requires.digits c.requires.few,
      number_more c.args.digits.now c.loop-digit.digit-index c.requires.digits c.loop-digit-test.true,
    )

pub loop-digit-preserved : goal.loop-digit-preserved
loop-digit-preserved c =
    omega (arith, c.loop-digit.invariant, c.from.ensures, number_more c.args.digits.now c.loop-digit.digit-index c.requires.digits c.loop-digit-test.true)

pub returns-clause-range : goal.returns-clause-range
returns-clause-range c =
    omega (arith, c.loop-digit.invariant, front_below c.args.digits.now c.loop-digit.digit-index (length c.args.digits.now) c.requires.digits (omega arith))

use Rattle.std.proofs.Common.{arith}
use Rattle.time_range.proofs.DateLemmas.{few_digits_below}
use Rattle.time_range.proofs.date.number.Goals as goal

pub overflow_cast-result : goal.overflow_cast-result
overflow_cast-result c = omega (arith, c.capped_number.ensures, few_digits_below c.args.digits.now c.requires.digits c.requires.few)

pub returns-clause-value : goal.returns-clause-value
returns-clause-value c = omega (arith, c.capped_number.ensures, few_digits_below c.args.digits.now c.requires.digits c.requires.few)

pub returns-clause-below : goal.returns-clause-below
returns-clause-below c = omega (arith, c.capped_number.ensures, few_digits_below c.args.digits.now c.requires.digits c.requires.few)

use Rattle.std.proofs.Common.{sym, ◌∙◌, arith}
use Rattle.fixed_num.proofs.DigitLemmas.{digit_read, read_below}
use Rattle.fixed_num.proofs.front.digits_front.Goals as goal

pub returns-then-not-is_ascii_digit-clause-range : goal.returns-then-not-is_ascii_digit-clause-range
returns-then-not-is_ascii_digit-clause-range c =
    read_below c.args.text.now c.loop-len.len c.loop-len.number 15 (record { digits = c.loop-len.invariant.digits; value = c.loop-len.invariant.value }) (omega (arith, c.loop-len-test.true, c.min-most.ensures))

pub overflow_mul-number : goal.overflow_mul-number
overflow_mul-number c =
    let read = digit_read c.args.text.now c.loop-len.len c.loop-len.number c.loop-len.invariant.digits c.loop-len.invariant.value (omega (arith, c.loop-len-test.true, c.min-most.ensures))
    (sym c.is_ascii_digit.ensures.value ∙ c.if-not-is_ascii_digit.false) in
    omega (arith, read_below _ _ _ 15 read (omega (arith, c.loop-len-test.true, c.min-most.ensures)))

pub overflow_add-number : goal.overflow_add-number
overflow_add-number c =
    let read = digit_read c.args.text.now c.loop-len.len c.loop-len.number c.loop-len.invariant.digits c.loop-len.invariant.value (omega (arith, c.loop-len-test.true, c.min-most.ensures))
    (sym c.is_ascii_digit.ensures.value ∙ c.if-not-is_ascii_digit.false) in
    omega (arith, c.from.ensures, read_below _ _ _ 15 read (omega (arith, c.loop-len-test.true, c.min-most.ensures)))

pub loop-len-preserved : goal.loop-len-preserved
loop-len-preserved c =
    let read = digit_read c.args.text.now c.loop-len.len c.loop-len.number c.loop-len.invariant.digits c.loop-len.invariant.value (omega (arith, c.loop-len-test.true, c.min-most.ensures))
    (sym c.is_ascii_digit.ensures.value ∙ c.if-not-is_ascii_digit.false) in
    record { digits = read.digits; value = omega (arith, c.from.ensures, read.value) }

pub returns-clause-range : goal.returns-clause-range
returns-clause-range c =
    read_below c.args.text.now c.loop-len.len c.loop-len.number 15 (record { digits = c.loop-len.invariant.digits; value = c.loop-len.invariant.value }) (omega (arith, c.loop-len.auto.len-end, c.min-most.ensures))

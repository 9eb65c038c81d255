use Rattle.std.proofs.Common.{length, take_all, sym, ap, ◌∙◌, arith}
use Rattle.std.specs.List.{list_all}
use Rattle.std.specs.Char.{is_ascii_digit}
use Rattle.fixed_num.proofs.DigitLemmas.{digit_read, number_missing, number_read, read_below}
use Rattle.fixed_num.proofs.digits.few_digits.Goals as goal

pub returns-then-not-is_ascii_digit-clause-value : goal.returns-then-not-is_ascii_digit-clause-value
returns-then-not-is_ascii_digit-clause-value c =
    sym (number_missing c.args.text.now c.loop-b.b-index c.loop-b-test.true (sym c.is_ascii_digit.ensures.value ∙ c.if-not-is_ascii_digit.true))

pub overflow_mul-number : goal.overflow_mul-number
overflow_mul-number c =
    let read = digit_read c.args.text.now c.loop-b.b-index c.loop-b.number c.loop-b.invariant.digits c.loop-b.invariant.value c.loop-b-test.true
    (sym c.is_ascii_digit.ensures.value ∙ c.if-not-is_ascii_digit.false) in
    omega (arith, read_below _ _ _ 19 read (omega arith))

pub overflow_add-number : goal.overflow_add-number
overflow_add-number c =
    let read = digit_read c.args.text.now c.loop-b.b-index c.loop-b.number c.loop-b.invariant.digits c.loop-b.invariant.value c.loop-b-test.true
    (sym c.is_ascii_digit.ensures.value ∙ c.if-not-is_ascii_digit.false) in
    omega (arith, c.from.ensures, read_below _ _ _ 19 read (omega arith))

pub loop-b-preserved : goal.loop-b-preserved
loop-b-preserved c =
    let read = digit_read c.args.text.now c.loop-b.b-index c.loop-b.number c.loop-b.invariant.digits c.loop-b.invariant.value c.loop-b-test.true
    (sym c.is_ascii_digit.ensures.value ∙ c.if-not-is_ascii_digit.false) in
    record { digits = read.digits; value = omega (arith, c.from.ensures, read.value) }

pub returns-clause-value : goal.returns-clause-value
returns-clause-value c =
    let whole = take_all c.loop-b.b-index c.args.text.now c.loop-b-test.false in
    sym (number_read c.args.text.now c.loop-b.number
    (ap (list_all is_ascii_digit) (sym whole) ∙ c.loop-b.invariant.digits) (rw whole at c.loop-b.invariant.value))

pub returns-clause-range : goal.returns-clause-range
returns-clause-range c =
    read_below c.args.text.now c.loop-b.b-index c.loop-b.number (length c.args.text.now) (record { digits = c.loop-b.invariant.digits; value = c.loop-b.invariant.value }) (omega arith)

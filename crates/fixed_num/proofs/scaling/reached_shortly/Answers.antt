use Rattle.std.proofs.Common.{Some, sym, ap, ◌∙◌, arith, rules, lt_of_lt_of_le}
use Rattle.std.proofs.Math.Nat.{pow-le-pow_right}
use Rattle.fixed_num.proofs.DigitLemmas.{number_of_digits_is}
use Rattle.fixed_num.proofs.ReadLemmas.{moved_few, no_mark}
use Rattle.fixed_num.proofs.scaling.reached_shortly.Goals as goal

pub reached_parts-requires-clause-whole : goal.reached_parts-requires-clause-whole
reached_parts-requires-clause-whole c =
    lt_of_lt_of_le c.in_ok-before.ensures.range (pow-le-pow_right {n = 10} (omega arith) (omega (arith, c.if-whole-most.false)))

pub reached_parts-requires-clause-fraction : goal.reached_parts-requires-clause-fraction
reached_parts-requires-clause-fraction c =
    lt_of_lt_of_le c.in_ok-behind.ensures.range (pow-le-pow_right {n = 10} (omega arith) (omega (arith, c.if-fraction-most.false)))

pub returns-clause-exponent : goal.returns-clause-exponent
returns-clause-exponent c =
    no_mark c.args.mantissa.now _ _ c.cut_at_point.ensures.whole c.cut_at_point.ensures.fraction
    (number_of_digits_is _ _ c.in_ok-before.ensures.value).0 (number_of_digits_is _ _ c.in_ok-behind.ensures.value).0

pub returns-clause-value : goal.returns-clause-value
returns-clause-value c =
    moved_few c.args.mantissa.now _ _ c.args.places c.in_ok-before.before c.in_ok-behind.behind c.cut_at_point.ensures.whole c.cut_at_point.ensures.fraction
    (search rules) c.in_ok-before.ensures.value c.in_ok-behind.ensures.value c.requires
    (lt_of_lt_of_le c.in_ok-before.ensures.range (pow-le-pow_right {n = 10} (omega arith) (omega (arith, c.if-whole-most.false))))
    (lt_of_lt_of_le c.in_ok-behind.ensures.range (pow-le-pow_right {n = 10} (omega arith) (omega (arith, c.if-fraction-most.false))))
    ∙ ap (λ reached. Some reached) (sym c.reached_parts.ensures.value)

use Rattle.std.proofs.Common.{◌^◌, sym, ◌∙◌}
use Rattle.std.proofs.lemmas.List.{take_rest}
use Rattle.fixed_num.proofs.ReadLemmas.{reached_plain, reached_not, reached_moved}
use Rattle.fixed_num.proofs.scaling.reached_in.Goals as goal

pub returns-in-Some-clause-value : goal.returns-in-Some-clause-value
returns-in-Some-clause-value c =
    sym c.in-Some.ensures.value
    ∙ reached_plain c.args.text.now c.without_leading_sign-digits.result.now c.args.places c.without_leading_sign-digits.ensures c.in-Some.ensures.exponent

pub returns-in_default-exponent_in-clause-value : goal.returns-in_default-exponent_in-clause-value
returns-in_default-exponent_in-clause-value c =
    c.moved.ensures.value ∙ reached_plain c.args.text.now c.without_leading_sign-digits.result.now c.args.places c.without_leading_sign-digits.ensures (sym c.in_default-exponent_in.ensures)

pub returns-in_err-up-clause-value : goal.returns-in_err-up-clause-value
returns-in_err-up-clause-value c =
    c.from_residual.ensures
    ∙ sym (reached_not c.args.text.now c.without_leading_sign-digits.result.now (10 ^ c.args.places) c.in-Some-exponent_in.letter c.without_leading_sign-digits.ensures
    (sym c.in-Some-exponent_in.ensures) (sym (rw take_rest at c.in_err-up.ensures.value)))

pub returns-clause-value : goal.returns-clause-value
returns-clause-value c =
    c.moved-2.ensures.value
    ∙ reached_moved c.args.text.now c.without_leading_sign-digits.result.now c.args.places c.in-Some-exponent_in.letter c.in_ok-up.up c.in_ok-up.down c.without_leading_sign-digits.ensures
    (sym c.in-Some-exponent_in.ensures) (sym (rw take_rest at c.in_ok-up.ensures.value))

use Rattle.std.proofs.Common.{ap, sym, ◌∙◌, rules, arith, take_all}
use Rattle.fixed_num.specs.Whole.{number_of_digits}
use Rattle.fixed_num.proofs.DigitLemmas.{whole_number_empty, whole_number_few, whole_number_long}
use Rattle.fixed_num.proofs.digits.read_whole.Goals as goal
use Rattle.fixed_num.proofs.digits.read_whole.Goals.{then-is_empty-via-then-is_empty, then-is_empty-via-else-is_empty+then-text-gt19}

pub returns-then-is_empty : goal.returns-then-is_empty
returns-then-is_empty c =
    elim c.then-is_empty.branch [
      | then-is_empty-via-then-is_empty w ↦ sym (whole_number_empty c.args.text.now (search rules))
      | then-is_empty-via-else-is_empty+then-text-gt19 w ↦ sym (whole_number_long c.args.text.now w.if-text-gt19.true)
    ]

pub returns-then-text-eq10 : goal.returns-then-text-eq10
returns-then-text-eq10 c =
    c.few_digits.ensures.value
    ∙ ap number_of_digits (take_all 10 c.args.text.now (omega (arith, c.if-text-eq10.true)))
    ∙ whole_number_few c.args.text.now (search rules) (omega arith)

pub returns : goal.returns
returns c = c.few_digits-2.ensures.value ∙ whole_number_few c.args.text.now (search rules) (omega arith)

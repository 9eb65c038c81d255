use Rattle.std.proofs.Common.{◌≡◌, ℕ, ◌∙◌, ap, arith, take}
use Rattle.ring_format.specs.Head.{number_bytes}
use Rattle.ring_format.proofs.RowLemmas.{four_in_row}
use Rattle.ring_format.proofs.head.put_front.Goals as goal

pub returns-clause-written : goal.returns-clause-written
returns-clause-written c =
    ap (λ (n : ℕ). take n c.put_number.new.out) (let end : 16 ≡ c.put_number.result = omega (arith, c.put_number.ensures.end, c.put_number-fourth.ensures.end, c.put_number-third.ensures.end, c.put_number-second.ensures.end) in end)
    ∙ four_in_row (number_bytes c.args.word) (number_bytes c.args.retention) (number_bytes c.args.factor) (number_bytes c.args.count) (take c.put_number-second.result c.put_number-second.new.out) (take c.put_number-third.result c.put_number-third.new.out)
    (take c.put_number-fourth.result c.put_number-fourth.new.out) (take c.put_number.result c.put_number.new.out)
    c.put_number-third.ensures.written c.put_number-fourth.ensures.written c.put_number.ensures.written c.put_number-second.ensures.written

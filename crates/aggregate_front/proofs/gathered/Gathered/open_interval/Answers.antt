use Rattle.std.proofs.Common.{arith}
use Rattle.aggregate_front.proofs.GatheredLemmas.{insert_opens, shift_opens}
use Rattle.aggregate_front.proofs.gathered.Gathered.open_interval.Goals as goal

pub returns-then-len-lt-MOST_OPEN-clause-opens : goal.returns-then-len-lt-MOST_OPEN-clause-opens
returns-then-len-lt-MOST_OPEN-clause-opens c =
    rw c.in_ok-insert.ensures.ok (insert_opens c.args.self.now c.args.at c.args.interval c.requires.place (omega (arith, c.len.ensures, c.if-len-lt-MOST_OPEN.true)))

pub returns-clause-opens : goal.returns-clause-opens
returns-clause-opens c =
    shift_opens c.args.self.now c.args.at c.args.interval c.shift-interval.result c.shift-interval.new.self c.requires.place
    (omega (arith, c.len.ensures, c.if-len-lt-MOST_OPEN.false, c.requires.few)) c.shift-interval.ensures

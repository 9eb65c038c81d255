use Rattle.name_pattern.proofs.substitution.push_next.Goals as goal

pub returns-then-is_open : goal.returns-then-is_open
returns-then-is_open c = rw c.if-is_open.true c.in_ok-is_next_open.ensures

pub returns : goal.returns
returns c = rw c.if-is_open.false (c.in_ok-is_next_open-2.ensures _)

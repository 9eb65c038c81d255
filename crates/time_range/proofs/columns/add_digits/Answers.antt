use Rattle.std.proofs.Common.{arith}
use Rattle.time_range.proofs.ColumnLemmas.{all_added}
use Rattle.time_range.proofs.columns.add_digits.Goals as goal

pub returns-clause-each : goal.returns-clause-each
returns-clause-each c =
    all_added c.args.sums.now c.loop-k.sums c.args.digits.now c.args.unit c.args.from c.loop-k.k (omega (arith, c.min-count.ensures, c.loop-k-test.false, c.loop-k.invariant.all))
    c.loop-k.invariant.done c.loop-k.invariant.left

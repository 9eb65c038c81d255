use Rattle.std.proofs.Common.{true, false, ap, arith, ne_eqb}
use Rattle.metric_path.specs.Path.{is_dot}
use Rattle.find_api.proofs.FindLemmas.{ends_at_dot, nodes_more}
use Rattle.find_api.proofs.find.end_of_nodes.Goals as goal
use Rattle.find_api.proofs.find.end_of_nodes.Goals.{then-b-eq46+else-left-eq0, else-b-eq46}

pub returns-then-left-eq0-clause-ends : goal.returns-then-left-eq0-clause-ends
returns-then-left-eq0-clause-ends c =
    ends_at_dot c.args.count c.args.name.now c.loop-at.at c.loop-at-test.true c.if-b-eq46.true (omega (arith, c.loop-at.invariant.0, c.loop-at.invariant.2, c.if-left-eq0.true))

pub loop-at-preserved : goal.loop-at-preserved
loop-at-preserved c =
    elim c.if-b-eq46.branch [
      | then-b-eq46+else-left-eq0 w ↦
          let more = nodes_more c.args.name.now c.loop-at.at true c.loop-at-test.true (ap is_dot w.if-b-eq46.true) in
          (omega (arith, w.left-is, w.if-left-eq0.false), omega (arith, c.loop-at-test.true), omega (arith, more, w.left-is, w.if-left-eq0.false, c.loop-at.invariant.2, c.loop-at.invariant.0))
      | else-b-eq46 w ↦
          let more = nodes_more c.args.name.now c.loop-at.at false c.loop-at-test.true (ne_eqb _ 46 w.if-b-eq46.false) in
          (omega (arith, w.left-is, c.loop-at.invariant.0), omega (arith, c.loop-at-test.true), omega (arith, more, w.left-is, c.loop-at.invariant.2))
    ]

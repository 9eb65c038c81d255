use Rattle.std.proofs.Common.{map, rules}
use Rattle.series_pick.specs.Nodes.{numbered}
use Rattle.series_pick.proofs.NodeLemmas.{chosen_known, chosen_missing}
use Rattle.series_pick.proofs.naming.chosen_nodes.Goals as goal

pub loop-number-preserved-in_default : goal.loop-number-preserved-in_default
loop-number-preserved-in_default c =
    chosen_missing (numbered (map (λ node. node.now) c.args.nodes.now)) (λ node. node.now) c.args.numbers.now c.loop-number.number-index _ c.loop-number.chosen.items c.numbered.result
    c.loop-number-test.true (search rules) c.numbered.ensures c.in_default.is c.loop-number.invariant

pub loop-number-preserved : goal.loop-number-preserved
loop-number-preserved c =
    let so_far = chosen_known (numbered (map (λ node. node.now) c.args.nodes.now)) (λ node. node.now) c.args.numbers.now c.loop-number.number-index _ c.loop-number.chosen.items c.numbered.result
    c.in-Some.node c.loop-number-test.true (search rules) c.numbered.ensures c.in-Some.is c.loop-number.invariant in
    search (so_far, rules)

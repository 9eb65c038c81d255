use Rattle.std.proofs.Common.{◌≡◌, filter_map, map, take}
use Rattle.series_pick.specs.Nodes.{numbered}
use Rattle.series_pick.proofs.naming.chosen_nodes.Given as goal

abbrev pub invariant-loop-number : goal.invariant-loop-number
invariant-loop-number l = map (λ node. node.now) l.chosen.items ≡ filter_map (numbered (map (λ node. node.now) l.nodes)) (take l.number-index l.numbers)

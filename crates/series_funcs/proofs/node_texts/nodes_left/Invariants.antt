use Rattle.std.proofs.Common.{◌≡◌, map, take}
use Rattle.series_funcs.specs.NodeTexts.{nodes_left}
use Rattle.series_funcs.proofs.node_texts.nodes_left.Given as goal

abbrev pub invariant-loop-place : goal.invariant-loop-place
invariant-loop-place l = map (λ node. node.now) l.left.items ≡ nodes_left l.without (map (λ node. node.now) (take l.place l.nodes))

use Rattle.std.proofs.Common.{◌≡◌, codes, map, string_bytes, take}
use Rattle.std.specs.List.{join_by}
use Rattle.series_pick.proofs.NodeLemmas.{separator}
use Rattle.series_pick.proofs.naming.joined.Given as goal

abbrev pub invariant-loop-node : goal.invariant-loop-node
invariant-loop-node l =
    (string_bytes l.name ≡ join_by (λ node. node) (codes ".") (map (λ node. node.now) (take l.node-index l.nodes)))
    × (l.separator ≡ separator (take l.node-index l.nodes))

use Rattle.std.proofs.Common.{◌≡◌, ◌++◌, length, map}
use Rattle.find_api.specs.declared.node.Node.{Node}
use Rattle.find_api.proofs.find.push_paths.Given as goal

abbrev pub invariant-loop-node : goal.invariant-loop-node
invariant-loop-node l =
    (l.paths.items ++ map (λ (node : Node). node.path) l.node-iterator.rest.items ≡ l.fn.paths.items ++ map (λ (node : Node). node.path) l.fn.nodes.items)
    × (l.node-iterator.rest.len ≡ length l.node-iterator.rest.items)

use Rattle.std.proofs.Common.{◌≡◌, ◌++◌, drop, cond, map}
use Rattle.find_api.specs.Texts.{further, joined, node_text}
use Rattle.find_api.proofs.text.push_nodes.Given as goal

abbrev pub invariant-loop-node : goal.invariant-loop-node
invariant-loop-node l =
    l.out.items ++ cond l.is_first (joined (map node_text (drop l.node-index l.nodes))) (further (map node_text (drop l.node-index l.nodes)))
    ≡ l.fn.out.items ++ joined (map node_text l.nodes)

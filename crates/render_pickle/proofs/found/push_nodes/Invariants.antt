use Rattle.std.proofs.Common.{◌≡◌, ◌++◌, drop, map}
use Rattle.pickle_form.specs.Pickle.{items_code}
use Rattle.pickle_form.specs.Value.{row}
use Rattle.render_pickle.specs.Reply.{node_value}
use Rattle.render_pickle.proofs.found.push_nodes.Given as goal

abbrev pub invariant-loop-node : goal.invariant-loop-node
invariant-loop-node l =
    l.out.items ++ items_code (row (map node_value (drop l.node-index l.nodes))) ≡ l.fn.out.items ++ items_code (row (map node_value l.nodes))

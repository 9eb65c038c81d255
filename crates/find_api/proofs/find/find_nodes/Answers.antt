use Rattle.std.proofs.Common.{List, subst}
use Rattle.std.proofs.lemmas.List.Filters.{dedup_is}
use Rattle.find_api.specs.Runs.{AddsFound}
use Rattle.find_api.specs.declared.node.Node.{Node}
use Rattle.find_api.proofs.OrderLemmas.{finds_from, node_equiv, node_exact, node_ties, node_total, once_from, once_in_order, once_kept}
use Rattle.find_api.proofs.find.find_nodes.Goals as goal

pub returns : goal.returns
returns c =
    let found = c.push_nodes.new.nodes.items in
    let sorted = c.sort.new.self.items in
    let nodes = c.dedup.new.self.items in
    let adds = subst (λ (l : List Node). AddsFound c.args.glob.now c.args.names.now l found) c.new-nodes.ensures.items c.in_ok-push_nodes.ensures in
    let moved = c.in_ok-sort.ensures.permutation in
    let in_order = c.in_ok-sort.ensures.sorted in
    let once = dedup_is _ _ _ c.dedup.ensures.filtered in
    finds_from c.args.glob.now c.args.names.now found nodes adds
    (once_in_order node_total node_equiv node_ties node_exact found sorted nodes moved in_order once)
    (once_kept node_total node_equiv node_ties node_exact found sorted nodes moved in_order once)
    (once_from node_total node_equiv node_ties node_exact found sorted nodes moved in_order once)

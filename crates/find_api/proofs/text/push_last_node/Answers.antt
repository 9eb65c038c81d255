use Rattle.std.proofs.Common.{◌≡◌, ℕ, ◌++◌, ◌-◌, None, List, [], OnOk, ap, arith, get_or, subst, sym, ◌∙◌}
use Rattle.std.proofs.lemmas.Option.{get_or_from_slice_get}
use Rattle.json.specs.Print.{quoted}
use Rattle.metric_path.specs.Path.{nodes_of, path_fault}
use Rattle.find_api.specs.Texts.{last_node}
use Rattle.find_api.proofs.AsciiLemmas.{node_is_utf8}
use Rattle.find_api.proofs.NodeLemmas.{some_nodes}
use Rattle.find_api.proofs.text.push_last_node.Goals as goal

pub overflow_sub-node_count : goal.overflow_sub-node_count
overflow_sub-node_count c = omega (arith, c.node_count.ensures, some_nodes c.args.path.now)

pub node-node-requires : goal.node-node-requires
node-node-requires c = omega (arith, c.node_count.ensures, some_nodes c.args.path.now)

pub unreachable-requires : goal.unreachable-requires
unreachable-requires c =
    c.in_default.ensures.cases.0 (node_is_utf8 c.args.path.now (subst (λ (t : List ℕ). path_fault t ≡ None) c.text.ensures.value c.text.ensures.legal) _ c.node-node.result.now (omega (arith, c.node_count.ensures, some_nodes c.args.path.now)) c.node-node.ensures)

pub returns : goal.returns
returns c =
    let nodes = nodes_of c.args.path.now in
    let same : c.in-Ok.text.now ≡ last_node c.args.path.now =
    c.in-Ok.ensures.cases.0 ∙ sym (get_or_from_slice_get nodes (c.node_count.result - 1) c.node-node.result.now [] c.node-node.ensures) ∙ ap (λ (n : ℕ). get_or nodes (n - 1) []) c.node_count.ensures in
    subst (λ (t : List ℕ). OnOk c.push_quoted.result (c.push_quoted.new.out.items ≡ c.args.out.now.items ++ quoted t)) same c.push_quoted.ensures

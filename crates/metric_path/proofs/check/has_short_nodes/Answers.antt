use Rattle.std.proofs.Common.{rules, tests, nat_le, length}
use Rattle.std.proofs.lemmas.Iterator.Search.{all_from_yields_List}
use Rattle.std.proofs.lemmas.Iterator.Splits.{YieldsList-from_slice_split}
use Rattle.metric_path.specs.Path.{is_dot, most_node_bytes}
use Rattle.metric_path.proofs.check.has_short_nodes.Goals as goal

pub returns : goal.returns
returns c =
    all_from_yields_List (λ node. nat_le (length node) most_node_bytes) _ _ _ c.all.ensures.ran
    (YieldsList-from_slice_split _ is_dot c.args.text.now c.split.ensures.rest c.split.ensures.done c.split.ensures.closure (λ x b q called. search (rules, tests)))
    (λ x b q called. search (rules, tests))

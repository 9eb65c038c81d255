use Rattle.std.proofs.Common.{rules, tests, ◌==◌, length}
use Rattle.std.proofs.lemmas.Iterator.Search.{any_from_yields_List}
use Rattle.std.proofs.lemmas.Iterator.Splits.{YieldsList-from_slice_split}
use Rattle.metric_path.specs.Path.{is_dot}
use Rattle.aggregate_rules.proofs.text.has_empty_node.Goals as goal

pub returns : goal.returns
returns c =
    any_from_yields_List (λ node. length node == 0) _ _ _ c.any.ensures.ran
    (YieldsList-from_slice_split _ is_dot c.args.text.now c.split.ensures.rest c.split.ensures.done c.split.ensures.closure (λ x b q called. search (rules, tests)))
    (λ x b q called. search (rules, tests))

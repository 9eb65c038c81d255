use Rattle.std.proofs.Common.{rules, tests}
use Rattle.std.proofs.lemmas.Iterator.Consumers.{nth_from_yields_List}
use Rattle.std.proofs.lemmas.Iterator.Splits.{YieldsList-from_slice_split}
use Rattle.metric_path.specs.Path.{is_dot}
use Rattle.metric_path.proofs.path.node_at.Goals as goal

pub returns : goal.returns
returns c =
    nth_from_yields_List _ _ c.args.i c.nth.ensures.ran
    (YieldsList-from_slice_split _ is_dot c.args.text.now c.split.ensures.rest c.split.ensures.done c.split.ensures.closure (λ x b q called. search (rules, tests)))

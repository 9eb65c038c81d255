use Rattle.std.proofs.Common.{ap, ◌∙◌}
use Rattle.std.specs.Option.{is_some}
use Rattle.metric_path.specs.Path.{path_fault}
use Rattle.metric_index.proofs.FrontLemmas.{least_is, none_begins}
use Rattle.metric_index.proofs.front.least_path.Goals as goal

pub returns-then-is_some : goal.returns-then-is_some
returns-then-is_some c = none_begins c.args.front.now c.in_ok-text.text.items c.in_ok-text.ensures (λ none.
    let told = ap is_some (c.fault_of.ensures ∙ ap path_fault c.as_slice.ensures.value ∙ none) in
    let some = c.is_some.ensures in
    absurd cc)

pub returns : goal.returns
returns c = least_is c.args.front.now c.in_ok-from_legal.field-0 (c.in_ok-from_legal.ensures ∙ c.as_slice-2.ensures.value ∙ c.in_ok-text.ensures)

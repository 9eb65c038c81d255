use Rattle.std.proofs.Common.{sym, ◌∙◌}
use Rattle.metric_path.proofs.FileNameLemmas.{HasFileName-from_stem, name_has_no_dot, own_path}
use Rattle.metric_path.proofs.path.MetricPath.of_file_name.Goals as goal

pub returns-then-has_dot-clause-found : goal.returns-then-has_dot-clause-found
returns-then-has_dot-clause-found c = λ text legal.
    name_has_no_dot _ c.in-Some.stem.now text (sym c.as_bytes.ensures.value ∙ c.in-Some.ensures) (sym c.has_dot.ensures ∙ c.if-has_dot.true)

pub returns-then-has_dot-clause-own : goal.returns-then-has_dot-clause-own
returns-then-has_dot-clause-own c = λ text legal same.
    absurd (name_has_no_dot _ c.in-Some.stem.now text (sym c.as_bytes.ensures.value ∙ c.in-Some.ensures) (sym c.has_dot.ensures ∙ c.if-has_dot.true) same)

pub returns-clause-found : goal.returns-clause-found
returns-clause-found c =
    HasFileName-from_stem _ _ c.in-Some.stem.now c.in_ok-text.text.items (sym c.as_bytes.ensures.value ∙ c.in-Some.ensures) (sym c.has_dot.ensures ∙ c.if-has_dot.false) c.in_ok-text.ensures c.of_text.ensures

pub returns-clause-own : goal.returns-clause-own
returns-clause-own c =
    own_path _ _
    (HasFileName-from_stem _ _ c.in-Some.stem.now c.in_ok-text.text.items (sym c.as_bytes.ensures.value ∙ c.in-Some.ensures) (sym c.has_dot.ensures ∙ c.if-has_dot.false) c.in_ok-text.ensures c.of_text.ensures)

use Rattle.std.proofs.Common.{◌∙◌, ◌∷◌, ◌++◌, List, ℕ, ap, append_assoc, arith, rules, codes}
use Rattle.render_json.specs.Json.{no_text, null_text}
use Rattle.render_json.specs.Values.{separator, value_or}
use Rattle.render_json.proofs.BackwardLemmas.{kept_later, no_text_long, point_before}
use Rattle.render_json.proofs.json_form.push_point.Goals as goal

pub returns-clause-pushed : goal.returns-clause-pushed
returns-clause-pushed c =
    let value = c.put_known-at in
    let front = c.put_opening-from in
    let sep = separator (codes ", ") c.args.is_first in
    let text = value_or null_text c.args.value in
    let is = front.ensures.written ∙ (append_assoc sep (codes "[") _ ∙ ap (λ (l : List ℕ). sep ++ 91 ∷ l) (value.ensures.written ∙ ap (λ (l : List ℕ). text ++ l) c.requires.is)) in
    rw (point_before front.new.text sep text no_text c.args.time front.result (search rules) no_text_long (omega (arith, front.ensures.start, value.ensures.start)) is) at c.push_from.ensures

pub returns-clause-kept : goal.returns-clause-kept
returns-clause-kept c =
    let end = c.args.end in
    let value = c.put_known-at in
    let front = c.put_opening-from in
    kept_later front.new.text value.new.text _ front.result value.result end front.ensures.written front.ensures.start (omega (arith, value.ensures.start))
    ∙ kept_later value.new.text c.args.text.now _ value.result end end value.ensures.written value.ensures.start (omega arith)

use Rattle.std.proofs.Common.{◌≡◌, ◌<◌, true, length, get_or, ap, ◌∙◌, rules}
use Rattle.std.proofs.lemmas.List.{drop_more, take_rest}
use Rattle.metric_line.specs.LineFields.{fields_of, is_blank}
use Rattle.metric_line.proofs.FieldLemmas.{fields_of-blank}
use Rattle.metric_line.proofs.fields.behind_blank.Goals as goal

pub returns-clause-fields : goal.returns-clause-fields
returns-clause-fields c =
    let text = c.args.text.now in
    let some : 0 < length text = search rules in
    let blank : is_blank (get_or text 0 0) ≡ true = search rules in
    rw take_rest (ap fields_of (drop_more text 0 0 some) ∙ fields_of-blank (get_or text 0 0) _ blank)

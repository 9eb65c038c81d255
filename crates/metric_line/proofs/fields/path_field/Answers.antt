use Rattle.std.proofs.Common.{◌≡◌, ◌<◌, true, get_or, length, arith, sym, ◌∙◌}
use Rattle.metric_line.specs.LineFields.{is_blank}
use Rattle.metric_line.proofs.PathFieldLemmas.{fields_of-path}
use Rattle.metric_line.proofs.fields.path_field.Goals as goal

pub returns-clause-fields : goal.returns-clause-fields
returns-clause-fields c =
    let line = c.args.line.now in
    let len = c.legal_front-len.result in
    let some : 0 < len = omega (arith, c.if-len-eq0.false) in
    let within : len < length line = omega (arith, c.if-len-line.false) in
    let blank : is_blank (get_or line len 0) ≡ true = sym c.is_blank.ensures ∙ c.if-not-is_blank.false in
    rw (c.split_at.ensures.front, c.split_at.ensures.back) (fields_of-path line len some within (c.legal_front-len.ensures.clean some) blank)

use Rattle.std.proofs.Common.{sym, ◌∙◌, rules}
use Rattle.metric_line.proofs.FieldLemmas.{fields_of-first, fields_of-none}
use Rattle.metric_line.proofs.fields.next_field.Goals as goal

pub returns-then-is_empty : goal.returns-then-is_empty
returns-then-is_empty c =
    sym c.from_field-text.ensures.fields ∙ fields_of-none c.from_field-text.result.now (search rules)

pub returns : goal.returns
returns c =
    rw (c.split_at.ensures.front, c.split_at.ensures.back, c.field_len.ensures.place)
    (sym c.from_field-text.ensures.fields ∙ fields_of-first c.from_field-text.result.now (c.from_field-text.ensures.front (search rules)))

use Rattle.std.proofs.lemmas.List.{take_rest}
use Rattle.metric_line.proofs.FieldLemmas.{fields_of-from, front_is_field}
use Rattle.metric_line.proofs.fields.from_field.Goals as goal

pub returns-clause-fields : goal.returns-clause-fields
returns-clause-fields c =
    rw (take_rest, c.field_start.ensures.place) (fields_of-from c.args.text.now)

pub returns-clause-front : goal.returns-clause-front
returns-clause-front c =
    rw (take_rest, c.field_start.ensures.place) (front_is_field c.args.text.now)

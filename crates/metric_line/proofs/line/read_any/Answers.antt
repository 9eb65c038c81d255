use Rattle.metric_line.proofs.LineLemmas.{datum_of_others, datum_of_three}
use Rattle.metric_line.proofs.line.read_any.Goals as goal

pub returns-in-Some-clause-datum : goal.returns-in-Some-clause-datum
returns-in-Some-clause-datum c =
    rw (datum_of_three c.args.line.now c.in-Some.fields.path.now c.in-Some.fields.value.now c.in-Some.fields.time.now c.args.now c.in-Some.ensures) c.read_fields.ensures.datum

pub returns-in-Some-clause-fault : goal.returns-in-Some-clause-fault
returns-in-Some-clause-fault c =
    rw (datum_of_three c.args.line.now c.in-Some.fields.path.now c.in-Some.fields.value.now c.in-Some.fields.time.now c.args.now c.in-Some.ensures) c.read_fields.ensures.fault

pub returns-in-Some-clause-memory : goal.returns-in-Some-clause-memory
returns-in-Some-clause-memory c =
    rw (datum_of_three c.args.line.now c.in-Some.fields.path.now c.in-Some.fields.value.now c.in-Some.fields.time.now c.args.now c.in-Some.ensures) c.read_fields.ensures.memory

pub returns-in-None-clause-fault : goal.returns-in-None-clause-fault
returns-in-None-clause-fault c =
    λ fault. datum_of_others c.args.line.now c.field_count.result c.args.now c.in-None.ensures c.field_count.ensures

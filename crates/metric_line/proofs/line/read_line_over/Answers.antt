use Rattle.std.proofs.Common.{◌≢◌, length, ap, arith}
use Rattle.metric_line.specs.LineFields.{fields_of}
use Rattle.metric_line.proofs.LineLemmas.{datum_of_others, datum_of_three}
use Rattle.metric_line.proofs.PathFieldLemmas.{three_behind}
use Rattle.metric_line.proofs.line.read_line_over.Goals as goal

pub returns-in-Some-plain_fields-clause-datum : goal.returns-in-Some-plain_fields-clause-datum
returns-in-Some-plain_fields-clause-datum c =
    rw (datum_of_three _ _ _ _ c.args.now (three_behind _ _ _ _ _ c.in-Some.ensures.fields c.in-Some-plain_fields.ensures.fields)) c.read_plain.ensures.datum

pub returns-in-Some-plain_fields-clause-fault : goal.returns-in-Some-plain_fields-clause-fault
returns-in-Some-plain_fields-clause-fault c =
    rw (datum_of_three _ _ _ _ c.args.now (three_behind _ _ _ _ _ c.in-Some.ensures.fields c.in-Some-plain_fields.ensures.fields)) c.read_plain.ensures.fault

pub returns-in-Some-plain_fields-clause-memory : goal.returns-in-Some-plain_fields-clause-memory
returns-in-Some-plain_fields-clause-memory c =
    rw (datum_of_three _ _ _ _ c.args.now (three_behind _ _ _ _ _ c.in-Some.ensures.fields c.in-Some-plain_fields.ensures.fields)) c.read_plain.ensures.memory

pub returns-in-Some-two_fields-clause-datum : goal.returns-in-Some-two_fields-clause-datum
returns-in-Some-two_fields-clause-datum c =
    rw (datum_of_three _ _ _ _ c.args.now (three_behind _ _ _ _ _ c.in-Some.ensures.fields c.in-Some-two_fields.ensures)) c.read_behind.ensures.datum

pub returns-in-Some-two_fields-clause-fault : goal.returns-in-Some-two_fields-clause-fault
returns-in-Some-two_fields-clause-fault c =
    rw (datum_of_three _ _ _ _ c.args.now (three_behind _ _ _ _ _ c.in-Some.ensures.fields c.in-Some-two_fields.ensures)) c.read_behind.ensures.fault

pub returns-in-Some-two_fields-clause-memory : goal.returns-in-Some-two_fields-clause-memory
returns-in-Some-two_fields-clause-memory c =
    rw (datum_of_three _ _ _ _ c.args.now (three_behind _ _ _ _ _ c.in-Some.ensures.fields c.in-Some-two_fields.ensures)) c.read_behind.ensures.memory

pub returns-in-None-clause-fault : goal.returns-in-None-clause-fault
returns-in-None-clause-fault c =
    let other : length (fields_of c.args.line.now) ≢ 3 = λ three. c.in-None.ensures (omega (arith, three, ap length c.in-Some.ensures.fields)) in
    λ fault. datum_of_others c.args.line.now c.field_count.result c.args.now other c.field_count.ensures

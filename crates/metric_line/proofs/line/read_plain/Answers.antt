use Rattle.std.proofs.Common.{rules}
use Rattle.metric_line.proofs.PlainLemmas.{plain_fault, plain_point}
use Rattle.metric_line.proofs.line.read_plain.Goals as goal

pub returns-in-Err-clause-fault : goal.returns-in-Err-clause-fault
returns-in-Err-clause-fault c =
    λ told. plain_fault c.args.path.now c.args.plain.value_text.now c.args.plain.time_text.now c.args.now c.args.plain.seconds c.args.plain.value c.in-Err.fault
    c.requires.legal c.requires.value c.requires.seconds c.in-Err.ensures.moment

pub returns-clause-datum : goal.returns-clause-datum
returns-clause-datum c =
    rw (plain_point c.args.path.now c.args.plain.value_text.now c.args.plain.time_text.now c.args.now c.args.plain.seconds c.in-Ok.time c.args.plain.value
    c.requires.legal c.requires.value c.requires.seconds c.in-Ok.ensures.moment)
    (search rules)

pub returns-clause-memory : goal.returns-clause-memory
returns-clause-memory c =
    rw (plain_point c.args.path.now c.args.plain.value_text.now c.args.plain.time_text.now c.args.now c.args.plain.seconds c.in-Ok.time c.args.plain.value
    c.requires.legal c.requires.value c.requires.seconds c.in-Ok.ensures.moment)
    (search rules)

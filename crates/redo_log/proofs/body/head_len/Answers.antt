use Rattle.std.proofs.Common.{arith}
use Rattle.redo_log.proofs.BodyLemmas.{length-head}
use Rattle.redo_log.proofs.body.head_len.Goals as goal

pub returns-clause-value : goal.returns-clause-value
returns-clause-value c = omega (arith, length-head c.args.layout.now, c.archive_count.ensures.value)

use Rattle.std.proofs.Common.{length, ap, arith}
use Rattle.redo_log.proofs.BodyLemmas.{length-body}
use Rattle.redo_log.proofs.body.body_len.Goals as goal

pub returns : goal.returns
returns c = omega (arith, length-body c.args.patch.now, c.leading_len.ensures.value, ap length c.cells.ensures.value)

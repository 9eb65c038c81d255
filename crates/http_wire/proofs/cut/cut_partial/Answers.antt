use Rattle.std.proofs.Common.{arith}
use Rattle.http_wire.proofs.CutLemmas.{awaits_head, refused_by_length}
use Rattle.http_wire.proofs.cut.cut_partial.Goals as goal

pub returns-then-bytes-lt-MOST_HEAD_BYTES : goal.returns-then-bytes-lt-MOST_HEAD_BYTES
returns-then-bytes-lt-MOST_HEAD_BYTES c =
    awaits_head c.args.bytes.now c.requires.partial c.requires.unfinished (omega (arith, c.if-bytes-lt-MOST_HEAD_BYTES.true))

pub returns : goal.returns
returns c =
    refused_by_length c.args.bytes.now c.requires.some c.requires.partial (omega (arith, c.if-bytes-lt-MOST_HEAD_BYTES.false))

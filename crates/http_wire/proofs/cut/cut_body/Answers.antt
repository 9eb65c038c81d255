use Rattle.std.proofs.Common.{arith, refl}
use Rattle.http_wire.proofs.CutLemmas.{awaits_body, begins_whole}
use Rattle.http_wire.proofs.cut.cut_body.Goals as goal

pub returns-then-bytes-spans : goal.returns-then-bytes-spans
returns-then-bytes-spans c = (
  awaits_body c.args.bytes.now c.args.spans.now c.args.count c.requires.head c.requires.body (omega (arith, c.if-bytes-spans.true)),
  c.requires.head,
)

pub returns : goal.returns
returns c =
    begins_whole c.args.bytes.now _ c.args.spans.now c.args.count c.requires.head c.requires.body (omega (arith, c.if-bytes-spans.false)) refl

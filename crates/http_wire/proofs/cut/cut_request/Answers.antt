use Rattle.http_wire.proofs.CutLemmas.{refused_by_head}
use Rattle.http_wire.proofs.cut.cut_request.Goals as goal

pub returns-in-Err : goal.returns-in-Err
returns-in-Err c = refused_by_head c.args.bytes.now c.args.spans.now c.in-Err.why c.requires c.in-Err.is

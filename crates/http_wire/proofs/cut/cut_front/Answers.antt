use Rattle.std.proofs.Common.{rules, arith, ◌<◌, length, subst, length-take}
use Rattle.httparse.specs.Grammar.{HasNoRequest, MayBecomeRequest}
use Rattle.http_wire.specs.Requests.{most_head_bytes}
use Rattle.http_wire.proofs.CutLemmas.{IsHeadOf-from_front, front_is, refused_by_front}
use Rattle.http_wire.proofs.cut.cut_front.Goals as goal

pub cut_request-requires : goal.cut_request-requires
cut_request-requires c =
    let some : 0 < length c.args.bytes.now = search rules in
    IsHeadOf-from_front c.min.result c.args.bytes.now c.in-Whole.spans
    (omega (arith, some, c.min.ensures, length-take c.min.result c.args.bytes.now)) (omega (arith, c.min.ensures)) c.in-Whole.ensures.0 c.in-Whole.ensures.1

pub cut_partial-requires-clause-partial : goal.cut_partial-requires-clause-partial
cut_partial-requires-clause-partial c =
    subst HasNoRequest (front_is most_head_bytes c.min.result c.args.bytes.now c.min.ensures) c.in-Partial.ensures.0

pub cut_partial-requires-clause-unfinished : goal.cut_partial-requires-clause-unfinished
cut_partial-requires-clause-unfinished c =
    subst MayBecomeRequest (front_is most_head_bytes c.min.result c.args.bytes.now c.min.ensures) c.in-Partial.ensures.1

pub returns-in-Invalid : goal.returns-in-Invalid
returns-in-Invalid c =
    let some : 0 < length c.args.bytes.now = search rules in
    refused_by_front c.min.result c.args.bytes.now some c.in-Invalid.ensures

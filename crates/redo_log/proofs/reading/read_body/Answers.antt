use Rattle.std.proofs.Common.{arith}
use Rattle.std.proofs.lemmas.Result.{IfOk-weaker}
use Rattle.redo_log.specs.Body.{IsBody}
use Rattle.redo_log.proofs.BodyLaws.{body_is_told, told_is_body}
use Rattle.redo_log.proofs.reading.read_body.Goals as goal

pub returns-clause-body : goal.returns-clause-body
returns-clause-body c = IfOk-weaker c.tell_body.result _ (IsBody c.args.bytes.now) (λ patch told. told_is_body c.args.bytes.now patch (λ i. omega (arith, c.type_inv.bytes i)) told) c.tell_body.ensures.value

pub returns-clause-damaged : goal.returns-clause-damaged
returns-clause-damaged c = λ damaged patch is.
    let none = c.tell_body.ensures.damaged damaged in
    let some = body_is_told c.args.bytes.now patch is in
    absurd cc

use Rattle.std.proofs.Common.{List, Option, Some, IfSome, subst, ℕ}
use Rattle.outside_io.specs.Image.{Image}
use Rattle.ring_format.specs.Patch.{PatchValue}
use Rattle.redo_log.specs.Body.{IsBody}
use Rattle.redo_log.specs.Recovery.{HasRing}
use Rattle.redo_log.proofs.RecoverLemmas.{no_other}
use Rattle.redo_log.proofs.recovery.held_redo.Goals as goal

pub returns-in-Ok-Some-clause-damaged : goal.returns-in-Ok-Some-clause-damaged
returns-in-Ok-Some-clause-damaged g c = λ failed.
    no_other _ c.in-Ok-Some.patch c.in-Ok.bytes.items c.in-Ok.ensures.bytes
    (subst (λ (xs : List ℕ). IsBody xs (Some c.in-Ok-Some.patch)) c.deref.ensures.value (subst (λ (p : Option PatchValue). IsBody c.deref.result.now p) c.in-Ok-Some.field-0-is c.in-Ok-Some.ensures.body))
    (subst (λ (o : Option Image). IfSome o (λ image. HasRing c.in-Ok-Some.patch image → ⊥)) c.read_log.ensures.frame.kept (c.redo_of.ensures.damaged failed))

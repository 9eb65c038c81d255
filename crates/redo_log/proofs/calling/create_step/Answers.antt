use Rattle.redo_log.proofs.StepLemmas.{create_leads, created, not_created, size_is}
use Rattle.redo_log.proofs.CrashRows.{created_row}
use Rattle.redo_log.proofs.calling.create_step.Goals as goal

pub returns-in-Ok-clause-ends : goal.returns-in-Ok-clause-ends
returns-in-Ok-clause-ends g c = (
  created c.args.shelf.now c.args.name.now _ _ _ c.requires.named (size_is c.args.shelf.now c.patch_of.result.now c.patch_of.ensures) c.requires.ready c.in-Ok.ensures.ok,
  create_leads c.args.shelf.now,
)

pub returns-in-Err-clause-ends : goal.returns-in-Err-clause-ends
returns-in-Err-clause-ends g c = not_created c.args.shelf.now c.args.name.now _ _ c.requires.named c.requires.ready c.in-Err.ensures.err

pub returns-in-Ok-clause-row : goal.returns-in-Ok-clause-row
returns-in-Ok-clause-row g c = λ row. (created_row c.args.shelf.now c.args.name.now _ _ _ _ _ c.requires.some (λ u v made. made.1) c.in-Ok.ensures.ok c.create_log.ensures.crash row).0

pub returns-in-Err-clause-row : goal.returns-in-Err-clause-row
returns-in-Err-clause-row g c = λ row. (created_row c.args.shelf.now c.args.name.now _ _ _ _ _ c.requires.some (λ u v only. only) c.in-Err.ensures.err c.create_log.ensures.crash row).1

use Rattle.redo_log.proofs.StepLemmas.{not_ran, ran, run_awaits, run_leads}
use Rattle.redo_log.proofs.RunRows.{not_ran_row, ran_row}
use Rattle.redo_log.proofs.calling.run_step.Goals as goal

pub write_next-requires-clause-file : goal.write_next-requires-clause-file
write_next-requires-clause-file g c = run_awaits c.args.shelf.now c.args.name.now _ c.requires.ready

pub returns-in-Ok-clause-ends : goal.returns-in-Ok-clause-ends
returns-in-Ok-clause-ends g c = (
  ran c.args.shelf.now c.args.name.now c.behind_run-next.result _ _ c.requires.named c.behind_run-next.ensures.next c.requires.ready c.in-Ok.ensures.ok,
  run_leads c.args.shelf.now c.behind_run-next.result c.requires.written c.behind_run-next.ensures.next,
)

pub returns-in-Err-clause-ends : goal.returns-in-Err-clause-ends
returns-in-Err-clause-ends g c = not_ran c.args.shelf.now c.args.name.now _ _ c.requires.named c.requires.ready c.in-Err.ensures.err

pub returns-in-Ok-clause-row : goal.returns-in-Ok-clause-row
returns-in-Ok-clause-row g c = λ row. ran_row c.args.shelf.now c.args.name.now c.behind_run-next.result _ _ _ _ c.requires.some c.requires.named c.behind_run-next.ensures.next c.behind_run-next.ensures.sound c.requires.ready c.in-Ok.ensures.ok c.write_next.ensures.crash row

pub returns-in-Err-clause-row : goal.returns-in-Err-clause-row
returns-in-Err-clause-row g c = λ row. not_ran_row c.args.shelf.now c.args.name.now _ _ _ _ c.requires.some c.requires.named c.behind_run-next.ensures.sound c.requires.ready c.in-Err.ensures.err c.write_next.ensures.crash row

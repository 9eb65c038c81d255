use Rattle.redo_log.proofs.StepLemmas.{gate_leads, gate_not_set, gate_set, gate_within}
use Rattle.redo_log.proofs.CrashRows.{gate_row}
use Rattle.redo_log.proofs.calling.gate_step.Goals as goal

pub set_gate-requires : goal.set_gate-requires
set_gate-requires g c = gate_within c.args.shelf.now c.args.name.now c.args.byte c.args.now c.args.behind _ c.requires.some c.requires.step c.requires.ready

pub returns-in-Ok-clause-ends : goal.returns-in-Ok-clause-ends
returns-in-Ok-clause-ends g c = (
  gate_set c.args.shelf.now c.args.name.now c.args.byte c.args.now c.args.behind _ _ c.requires.named c.requires.step c.requires.ready c.in-Ok.ensures.ok,
  gate_leads c.args.shelf.now c.args.byte c.args.now c.args.behind c.requires.step c.requires.written,
)

pub returns-in-Err-clause-ends : goal.returns-in-Err-clause-ends
returns-in-Err-clause-ends g c = gate_not_set c.args.shelf.now c.args.name.now c.args.byte c.args.now c.args.behind _ _ c.requires.named c.requires.step c.requires.ready c.in-Err.ensures.err

pub returns-in-Ok-clause-row : goal.returns-in-Ok-clause-row
returns-in-Ok-clause-row g c = λ row. (gate_row c.args.shelf.now c.args.name.now c.args.byte c.args.now c.args.behind _ _ _ _ _ c.requires.some c.requires.step (λ u v puts. puts.1) c.in-Ok.ensures.ok c.set_gate.ensures.crash row).0

pub returns-in-Err-clause-row : goal.returns-in-Err-clause-row
returns-in-Err-clause-row g c = λ row. (gate_row c.args.shelf.now c.args.name.now c.args.byte c.args.now c.args.behind _ _ _ _ _ c.requires.some c.requires.step (λ u v tears. tears.1) c.in-Err.ensures.err c.set_gate.ensures.crash row).1

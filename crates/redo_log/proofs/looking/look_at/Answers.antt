use Rattle.ring_writer.proofs.NextLemmas.{on_err_then}
use Rattle.redo_log.proofs.LookLemmas.{looks_call}
use Rattle.redo_log.proofs.looking.look_at.Goals as goal

pub returns-clause-frame : goal.returns-clause-frame
returns-clause-frame g c = looks_call c.args.disk.now c.read_at.new.self
    (record { kept = c.read_at.ensures.kept; changes = c.read_at.ensures.changes; later = c.read_at.ensures.later; cause = on_err_then c.read_at.result c.read_at.ensures.cause })

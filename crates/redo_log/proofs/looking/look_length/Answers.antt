use Rattle.ring_writer.proofs.NextLemmas.{on_err_then}
use Rattle.redo_log.proofs.LookLemmas.{looks_call}
use Rattle.redo_log.proofs.looking.look_length.Goals as goal

pub returns-clause-frame : goal.returns-clause-frame
returns-clause-frame g c = looks_call c.args.disk.now c.length.new.self
    (record { kept = c.length.ensures.kept; changes = c.length.ensures.changes; later = c.length.ensures.later; cause = on_err_then c.length.result c.length.ensures.cause })

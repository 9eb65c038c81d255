use Rattle.redo_log.proofs.LookLemmas.{looks_by}
use Rattle.redo_log.proofs.looking.settle.Goals as goal

pub returns-clause-frame : goal.returns-clause-frame
returns-clause-frame g c = looks_by c.args.disk.now c.sync_disk.new.disk c.sync_disk.ensures.kept c.sync_disk.ensures.frame c.sync_disk.ensures.crash

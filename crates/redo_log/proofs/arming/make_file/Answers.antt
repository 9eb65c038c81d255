use Rattle.redo_log.proofs.ArmLemmas.{made_first, made_synced}
use Rattle.redo_log.proofs.arming.make_file.Goals as goal

pub returns-in-Err-clause-moments : goal.returns-in-Err-clause-moments
returns-in-Err-clause-moments g c = made_first g.D.Disk c.args.disk.now c.create.new.self c.args.name.now c.create.ensures.crash

pub returns-clause-moments : goal.returns-clause-moments
returns-clause-moments g c = made_synced g.D.Disk c.args.disk.now c.create.new.self c.sync.new.self c.args.name.now c.create.ensures.crash c.sync.ensures.crash

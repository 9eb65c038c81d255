use Rattle.redo_log.specs.Steps.{gate_name, log_name}
use Rattle.redo_log.proofs.ArmLemmas.{both_made, gate_left, log_left}
use Rattle.redo_log.proofs.arming.make_files.Goals as goal

pub returns-in-Ok-make_file-clause-made : goal.returns-in-Ok-make_file-clause-made
unfolding log_name gate_name
returns-in-Ok-make_file-clause-made g c =
    both_made (g.D.Disk.image c.args.disk.now) (g.D.Disk.image c.make_file.new.disk) (g.D.Disk.image c.make_file-2.new.disk) c.in-Ok.ensures.ok c.in-Ok-make_file.ensures.ok

pub returns-in-Err-clause-image : goal.returns-in-Err-clause-image
unfolding log_name gate_name
returns-in-Err-clause-image g c = log_left (g.D.Disk.image c.args.disk.now) (g.D.Disk.image c.make_file.new.disk) c.requires.shut c.in-Err.ensures.err

pub returns-in-Err-make_file-clause-image : goal.returns-in-Err-make_file-clause-image
unfolding log_name gate_name
returns-in-Err-make_file-clause-image g c =
    gate_left (g.D.Disk.image c.args.disk.now) (g.D.Disk.image c.make_file.new.disk) (g.D.Disk.image c.make_file-2.new.disk) c.in-Ok.ensures.ok c.in-Err-make_file.ensures.err

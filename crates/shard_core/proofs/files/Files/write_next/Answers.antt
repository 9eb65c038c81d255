use Rattle.std.proofs.Common.{refl}
use Rattle.shard_core.specs.Halves.{both, files_of}
use Rattle.shard_core.proofs.GoesLemmas.{awaits_runs, work_kept, work_told}
use Rattle.shard_core.proofs.HalvesLemmas.{halves_written}
use Rattle.shard_core.proofs.WriteLemmas.{stays_kept}
use Rattle.shard_core.proofs.files.Files.write_next.Goals as goal

pub step-requires-clause-runs : goal.step-requires-clause-runs
step-requires-clause-runs g c = awaits_runs c.requires.desk.class c.requires.desk.table c.args.self.now.work.shelf (g.D.Disk.image c.args.self.now.disk) c.requires.halves.writing

pub step-requires-clause-log : goal.step-requires-clause-log
step-requires-clause-log g c = c.requires.halves.logged

pub returns-clause-writes : goal.returns-clause-writes
returns-clause-writes g c = λ desk. work_told desk c.args.self.now.class c.step.result c.args.self.now.work c.step.new.self (g.D.Disk.image c.args.self.now.disk) (g.D.Disk.image c.step.new.disk) c.step.ensures.goes

pub returns-clause-stays : goal.returns-clause-stays
returns-clause-stays g c = λ desk halves.
    stays_kept (both desk (files_of c.args.self.now)) c.step.new.self.shelf c.step.new.self.steps c.step.new.self.log (g.D.Disk.image c.step.new.disk)
    (work_kept desk.class desk.table c.step.result c.args.self.now.work c.step.new.self (g.D.Disk.image c.args.self.now.disk) (g.D.Disk.image c.step.new.disk) c.step.ensures.goes halves.logged halves.writing).0.kept

pub returns-clause-halves : goal.returns-clause-halves
returns-clause-halves g c = λ desk halves.
    let kept = work_kept desk.class desk.table c.step.result c.args.self.now.work c.step.new.self (g.D.Disk.image c.args.self.now.disk) (g.D.Disk.image c.step.new.disk) c.step.ensures.goes halves.logged halves.writing in
    halves_written desk (files_of c.args.self.now) (record (files_of c.args.self.now) { shelf = c.step.new.self.shelf; steps = c.step.new.self.steps; log = c.step.new.self.log; known = g.D.Disk.image c.step.new.disk }) refl kept.0 kept.1 halves

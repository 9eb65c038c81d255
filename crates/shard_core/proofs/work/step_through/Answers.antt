use Rattle.shard_core.proofs.WorkLemmas.{goes_through}
use Rattle.shard_core.proofs.work.step_through.Goals as goal

pub returns-clause-goes : goal.returns-clause-goes
returns-clause-goes g c =
    goes_through c.step-end.result c.wrote_by.result c.args.redo.now c.step-end.new.self (g.D.Disk.image c.args.disk.now) (g.D.Disk.image c.step-end.new.disk) c.wrote_by.ensures.step c.step-end.ensures.ends c.step-end.ensures.count c.patch.ensures.going
    c.patch-2.ensures.going c.step-end.ensures.ready

use Rattle.shared_store.proofs.DrainLemmas.{undrained_fault, write_fails}
use Rattle.shared_store.proofs.store.Store.finish.Goals as goal

pub returns-in-DiskFault-clause-writes : goal.returns-in-DiskFault-clause-writes
returns-in-DiskFault-clause-writes g c =
    write_fails g.N.Named.start g.N.Named.passes c.args.class c.args.pass.now c.loop-run.pass c.write_step.new.pass
    c.loop-run.invariant.leads c.loop-run.invariant.looks c.in-DiskFault.ensures.enters c.write_step.ensures.looks c.in-DiskFault.ensures.after

pub returns-in-DiskFault-clause-none : goal.returns-in-DiskFault-clause-none
returns-in-DiskFault-clause-none g c =
    undrained_fault g.N.Named.start g.N.Named.passes c.args.class c.args.pass.now c.loop-run.pass c.write_step.new.pass c.loop-run.invariant.leads c.in-DiskFault.ensures.enters

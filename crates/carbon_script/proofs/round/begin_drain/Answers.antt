use Rattle.carbon_script.proofs.RoundLemmas.{begins_fault, begins_metric, begins_short, plans_on}
use Rattle.carbon_script.proofs.round.begin_drain.Goals as goal

pub returns-in-Took : goal.returns-in-Took
returns-in-Took g c =
    begins_metric g.N.Named.table g.N.Named.start g.N.Named.passes c.requires.alone c.args.pass.now c.requires.only c.loop-class.class c.args.now c.loop-class.pass c.plan_step.new.pass
    c.in-Took.ensures.looks c.in-Took.path c.loop-class-test.true c.loop-class.invariant c.in-Took.ensures.enters c.in-Took.ensures.after

pub returns-in-DiskFault : goal.returns-in-DiskFault
returns-in-DiskFault g c =
    begins_fault g.N.Named.table g.N.Named.start g.N.Named.passes c.requires.alone c.args.pass.now c.requires.only c.loop-class.class c.args.now c.loop-class.pass c.plan_step.new.pass
    c.in-DiskFault.ensures.looks c.loop-class-test.true c.loop-class.invariant c.in-DiskFault.ensures.enters c.in-DiskFault.ensures.after

pub returns-in-NoMemory : goal.returns-in-NoMemory
returns-in-NoMemory g c =
    begins_short g.N.Named.table g.N.Named.start g.N.Named.passes c.requires.alone c.args.pass.now c.requires.only c.loop-class.class c.args.now c.loop-class.pass c.plan_step.new.pass
    c.in-NoMemory.ensures.looks c.loop-class.invariant c.in-NoMemory.ensures.enters

pub loop-class-preserved : goal.loop-class-preserved
loop-class-preserved g c =
    plans_on g.N.Named.table g.N.Named.start g.N.Named.passes c.requires.alone c.args.pass.now c.requires.only c.loop-class.class c.args.now c.loop-class.pass c.plan_step.new.pass
    c.plan_step.ensures.looks c.plan_step.result c.in-Busy.is c.loop-class.invariant c.plan_step.ensures.enters c.plan_step.ensures.after

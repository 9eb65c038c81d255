use Rattle.carbon_script.proofs.RoundLemmas.{writes_fault, writes_finished, writes_nothing, writes_run}
use Rattle.carbon_script.proofs.round.write_run.Goals as goal

pub returns-in-Run : goal.returns-in-Run
returns-in-Run g c =
    writes_run g.N.Named.table g.N.Named.start g.N.Named.passes c.requires.alone c.args.pass.now c.requires.only c.loop-class.class 0 c.loop-class.pass c.write_step.new.pass
    c.in-Run.ensures.looks c.loop-class-test.true c.loop-class.invariant c.in-Run.ensures.enters c.in-Run.ensures.after

pub returns-in-Finished : goal.returns-in-Finished
returns-in-Finished g c =
    writes_finished g.N.Named.table g.N.Named.start g.N.Named.passes c.requires.alone c.args.pass.now c.requires.only c.loop-class.class 0 c.loop-class.pass c.write_step.new.pass
    c.in-Finished.ensures.looks c.loop-class-test.true c.loop-class.invariant c.in-Finished.ensures.enters c.in-Finished.ensures.after

pub returns-in-DiskFault : goal.returns-in-DiskFault
returns-in-DiskFault g c =
    writes_fault g.N.Named.table g.N.Named.start g.N.Named.passes c.requires.alone c.args.pass.now c.requires.only c.loop-class.class 0 c.loop-class.pass c.write_step.new.pass
    c.in-DiskFault.ensures.looks c.loop-class-test.true c.loop-class.invariant c.in-DiskFault.ensures.enters c.in-DiskFault.ensures.after

pub loop-class-preserved : goal.loop-class-preserved
loop-class-preserved g c =
    writes_nothing g.N.Named.table g.N.Named.start g.N.Named.passes c.requires.alone c.args.pass.now c.requires.only c.loop-class.class 0 c.loop-class.pass c.write_step.new.pass
    c.in-Nothing.ensures.looks c.loop-class.invariant c.in-Nothing.ensures.enters c.in-Nothing.ensures.after

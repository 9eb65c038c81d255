use Rattle.redo_log.proofs.UnderwayLemmas.{loop_failed, loop_goes, loop_last, loop_starts}
use Rattle.redo_log.proofs.recovery.take_all.Goals as goal

pub loop-redo-init : goal.loop-redo-init
loop-redo-init g c = loop_starts g.D.Disk c.args.disk.now c.args.redo c.requires.some c.requires.held c.requires.settled

pub loop-redo-preserved : goal.loop-redo-preserved
loop-redo-preserved g c =
    loop_goes g.D.Disk c.args.disk.now c.loop-redo.disk c.step.new.disk c.loop-redo.redo c.step.new.self c.loop-redo.invariant c.in-Run.ensures.ends c.step.ensures.ready c.step.ensures.rows c.step.ensures.frame.later

pub returns-in-Finished-clause-ends : goal.returns-in-Finished-clause-ends
returns-in-Finished-clause-ends g c =
    (loop_last g.D.Disk c.args.disk.now c.loop-redo.disk c.step.new.disk c.loop-redo.redo c.step.new.self c.loop-redo.invariant c.in-Finished.ensures.ends c.step.ensures.rows c.step.ensures.frame.later).0.ends

pub returns-in-Finished-clause-row : goal.returns-in-Finished-clause-row
returns-in-Finished-clause-row g c =
    (loop_last g.D.Disk c.args.disk.now c.loop-redo.disk c.step.new.disk c.loop-redo.redo c.step.new.self c.loop-redo.invariant c.in-Finished.ensures.ends c.step.ensures.rows c.step.ensures.frame.later).1

pub returns-in-Finished-clause-leaves : goal.returns-in-Finished-clause-leaves
returns-in-Finished-clause-leaves g c =
    (loop_last g.D.Disk c.args.disk.now c.loop-redo.disk c.step.new.disk c.loop-redo.redo c.step.new.self c.loop-redo.invariant c.in-Finished.ensures.ends c.step.ensures.rows c.step.ensures.frame.later).0.leaves

pub returns-in-Finished-clause-frame : goal.returns-in-Finished-clause-frame
returns-in-Finished-clause-frame g c = record {
  later = (loop_last g.D.Disk c.args.disk.now c.loop-redo.disk c.step.new.disk c.loop-redo.redo c.step.new.self c.loop-redo.invariant c.in-Finished.ensures.ends c.step.ensures.rows c.step.ensures.frame.later).0.later;
  cause = λ failed. absurd cc;
}

pub returns-in-DiskFault-clause-ends : goal.returns-in-DiskFault-clause-ends
returns-in-DiskFault-clause-ends g c =
    (loop_failed g.D.Disk c.args.disk.now c.loop-redo.disk c.step.new.disk c.loop-redo.redo c.step.new.self c.loop-redo.invariant c.in-DiskFault.ensures.ends c.step.ensures.ready c.step.ensures.rows c.step.ensures.frame.later).ends

pub returns-in-DiskFault-clause-leaves : goal.returns-in-DiskFault-clause-leaves
returns-in-DiskFault-clause-leaves g c =
    (loop_failed g.D.Disk c.args.disk.now c.loop-redo.disk c.step.new.disk c.loop-redo.redo c.step.new.self c.loop-redo.invariant c.in-DiskFault.ensures.ends c.step.ensures.ready c.step.ensures.rows c.step.ensures.frame.later).leaves

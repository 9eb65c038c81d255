-- The recovery is on its way.
use Rattle.std.proofs.Common.{IsSomeAnd}
use Rattle.redo_log.specs.Count.{steps_left}
use Rattle.redo_log.proofs.UnderwayLemmas.{Underway}
use Rattle.redo_log.proofs.recovery.take_all.Given as goal

abbrev pub invariant-loop-redo : goal.invariant-loop-redo
invariant-loop-redo g l = IsSomeAnd l.redo (Underway g.D.Disk l.fn.disk l.disk)

abbrev pub decreases-loop-redo : goal.decreases-loop-redo
decreases-loop-redo g l = steps_left l.redo

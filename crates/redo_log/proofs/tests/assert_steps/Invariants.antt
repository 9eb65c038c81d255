-- The redo is ready for its next step.
use Rattle.std.proofs.Common.{IfSome}
use Rattle.outside_io.specs.MemDisk.{disk_image}
use Rattle.redo_log.specs.Steps.{IsReady}
use Rattle.redo_log.proofs.tests.assert_steps.Given as goal

abbrev pub invariant-loop-end : goal.invariant-loop-end
invariant-loop-end g l = IfSome l.redo (λ held. IsReady held (disk_image l.disk))

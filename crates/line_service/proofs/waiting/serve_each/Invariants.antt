use Rattle.std.proofs.Common.{length}
use Rattle.outside_io.specs.Frames.{CountsWrites}
use Rattle.line_service.specs.Service.{StepOf, standing}
use Rattle.line_service.specs.Standing.{ServesTo}
use Rattle.line_service.proofs.waiting.serve_each.Given as goal

abbrev pub invariant-loop-framed : goal.invariant-loop-framed
invariant-loop-framed g l = record {
  serves : ServesTo (StepOf g.L.LineServer.serves) l.fn.framer (standing g.K.Sink l.fn.server l.fn.out) l.framer (standing g.K.Sink l.server l.out);
  writes : CountsWrites g.K.Sink l.fn.out l.out ⊥;
}

abbrev pub decreases-loop-framed : goal.decreases-loop-framed
decreases-loop-framed g l = length l.framer.waiting

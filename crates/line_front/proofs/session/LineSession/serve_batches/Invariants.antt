use Rattle.std.proofs.Common.{length}
use Rattle.line_service.specs.Service.{StepOf, standing}
use Rattle.line_service.specs.Standing.{ServesTo}
use Rattle.line_front.specs.Sessions.{ServesLink}
use Rattle.line_front.proofs.session.LineSession.serve_batches.Given as goal

abbrev pub invariant-loop-self : goal.invariant-loop-self
invariant-loop-self g l =
    ServesTo (StepOf (ServesLink g.C.Clock.moments g.N.Named.start g.N.Named.passes)) l.fn.framer (standing g.K.Sink l.fn.self l.fn.out) l.framer (standing g.K.Sink l.self l.fn.out)

abbrev pub decreases-loop-self : goal.decreases-loop-self
decreases-loop-self g l = length l.framer.waiting

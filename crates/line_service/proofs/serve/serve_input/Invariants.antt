use Rattle.std.proofs.Common.{◌≡◌, ◌-◌, ◌≤◌, ◌^◌}
use Rattle.outside_io.specs.Frames.{CountsReads, CountsWrites}
use Rattle.line_service.specs.Service.{StepOf, standing}
use Rattle.line_service.specs.Standing.{Reached}
use Rattle.line_service.proofs.serve.serve_input.Given as goal

abbrev pub invariant-loop-taken : goal.invariant-loop-taken
invariant-loop-taken g l = record {
  reached : Reached (StepOf g.L.LineServer.serves) (g.S.Source.left l.fn.input) (standing g.K.Sink l.fn.server l.fn.out) l.taken (g.S.Source.left l.input) l.framer (standing g.K.Sink l.server l.out);
  limit : l.taken ≤ 2 ^ 40;
  reads : CountsReads g.S.Source l.fn.input l.input ⊥;
  beside : g.S.Source.beside_read l.input ≡ g.S.Source.beside_read l.fn.input;
  writes : CountsWrites g.K.Sink l.fn.out l.out ⊥;
}

abbrev pub decreases-loop-taken : goal.decreases-loop-taken
decreases-loop-taken g l = 1099511627776 - l.taken

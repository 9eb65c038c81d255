use Rattle.std.proofs.Common.{ℕ, take, ◌∙◌, arith, length-take}
use Rattle.std.proofs.lemmas.List.{length-take-le}
use Rattle.line_service.specs.Service.{StepOf}
use Rattle.line_service.proofs.StandingLemmas.{ends_memory, ends_stopped, reached_more}
use Rattle.line_service.proofs.serve.serve_input.Goals as goal

pub loop-taken-preserved : goal.loop-taken-preserved
loop-taken-preserved g c = record {
  reached = reached_more (StepOf g.L.LineServer.serves) (g.S.Source.left c.args.input.now) (g.S.Source.left c.loop-taken.input) (g.S.Source.left c.read.new.self) _ _ _
      c.loop-taken.framer c.serve_piece.new.framer c.loop-taken.taken c.in-Got.count (take c.in-Got.count c.read.new.buf)
      c.loop-taken.invariant.reached c.in-Got.ensures.bytes (length-take-le c.in-Got.count c.read.new.buf c.in-Got.ensures.count.1) c.in-Ok.ensures.takes;
  limit = omega (arith, c.in-Got.ensures.count.1, c.read.auto.buf, c.min-most.ensures, c.loop-taken-test.true, length-take {A = ℕ});
  reads = record {
    later = omega (arith, c.loop-taken.invariant.reads.later, c.in-Got.ensures.later);
    cause = λ failed. absurd failed;
  };
  beside = c.in-Got.ensures.beside ∙ c.loop-taken.invariant.beside;
  writes = record {
    later = omega (arith, c.loop-taken.invariant.writes.later, c.in-Ok.ensures.writes.later);
    cause = λ failed. absurd failed;
  };
}

pub returns-in-Err-NoMemory-clause-service : goal.returns-in-Err-NoMemory-clause-service
returns-in-Err-NoMemory-clause-service g c =
    ends_memory g.L.LineServer.serves g.L.LineServer.stops (g.S.Source.left c.args.input.now) (g.S.Source.left c.loop-taken.input) (g.S.Source.left c.read.new.self) _ _ _
    c.loop-taken.framer c.loop-taken.taken (take c.in-Got.count c.read.new.buf) c.loop-taken.invariant.reached c.loop-taken-test.true c.in-Got.ensures.bytes
    (omega (arith, c.in-Got.ensures.count.0, length-take-le c.in-Got.count c.read.new.buf c.in-Got.ensures.count.1))
    (rw c.in-Err-NoMemory.field-0-is at c.in-Err-NoMemory.ensures.breaks)

pub returns-in-Err-Stopped-clause-service : goal.returns-in-Err-Stopped-clause-service
returns-in-Err-Stopped-clause-service g c =
    ends_stopped g.L.LineServer.serves g.L.LineServer.stops c.in-Err-Stopped.stop
    (g.S.Source.left c.args.input.now) (g.S.Source.left c.loop-taken.input) (g.S.Source.left c.read.new.self) _ _ _
    c.loop-taken.framer c.loop-taken.taken (take c.in-Got.count c.read.new.buf) c.loop-taken.invariant.reached c.in-Got.ensures.bytes
    (rw c.in-Err-Stopped.field-0-is at c.in-Err-Stopped.ensures.breaks)

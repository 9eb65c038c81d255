use Rattle.std.proofs.Common.{arith}
use Rattle.line_service.proofs.StandingLemmas.{serves_to_framed, stops_framed}
use Rattle.line_service.proofs.waiting.serve_each.Goals as goal

pub loop-framed-preserved : goal.loop-framed-preserved
loop-framed-preserved g c = record {
  serves = serves_to_framed g.L.LineServer.serves c.in-Some.framed c.args.framer.now c.loop-framed.framer c.next_line.new.self _ _ _
      c.loop-framed.invariant.serves c.in-Some.ensures.next c.in-Some.ensures.open_line c.in-Ok.ensures.serves;
  writes = record {
    later = omega (arith, c.loop-framed.invariant.writes.later, c.in-Ok.ensures.writes.later);
    cause = λ failed. absurd failed;
  };
}

pub returns-in-Err-clause-stops : goal.returns-in-Err-clause-stops
returns-in-Err-clause-stops g c =
    stops_framed g.L.LineServer.serves g.L.LineServer.stops c.in-Err.stop c.in-Some.framed c.args.framer.now c.loop-framed.framer c.next_line.new.self _ _ _
    c.loop-framed.invariant.serves c.in-Some.ensures.next c.in-Err.ensures.stops

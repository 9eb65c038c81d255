use Rattle.http_front.specs.Origin.{origin_of}
use Rattle.http_front.proofs.StandingLemmas.{breaks_handed, waits_fewer}
use Rattle.http_front.proofs.renderer.Renderer.serve_waiting.Goals as goal

pub loop-handed-smaller : goal.loop-handed-smaller
loop-handed-smaller g c =
    waits_fewer (origin_of g.C.Clock g.N.Named c.args.self.now.clock.now) c.in-Some.handed c.loop-handed.reader c.next_request.new.self _ _ c.in-Some.ensures.hands c.in-Ok.ensures.serves

pub returns-in-Err-clause-breaks : goal.returns-in-Err-clause-breaks
returns-in-Err-clause-breaks g c =
    breaks_handed (origin_of g.C.Clock g.N.Named c.args.self.now.clock.now) c.in-Err.end c.args.reader.now.left _ _ _ c.in-Some.handed c.loop-handed.reader c.next_request.new.self
    c.loop-handed.invariant.proceeds c.in-Some.ensures.hands c.in-Err.ensures.stops

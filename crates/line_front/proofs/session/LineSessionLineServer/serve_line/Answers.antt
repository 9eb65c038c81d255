use Rattle.std.proofs.Common.{Err, ap}
use Rattle.metric_line.specs.Seen.{seen}
use Rattle.line_front.proofs.EmitLemmas.{stops_bring}
use Rattle.line_front.proofs.SessionLemmas.{stops_refused}
use Rattle.line_front.proofs.session.LineSessionLineServer.serve_line.Goals as goal

pub returns-in-Ok-clause-stops : goal.returns-in-Ok-clause-stops
returns-in-Ok-clause-stops g c =
    stops_bring g.C.Clock.moments g.N.Named.start g.N.Named.passes c.args.self.now c.moment-now.new.self c.args.line.now c.moment-now.result c.moment-now.ensures.new
    c.moment-now.ensures.told c.bring.result c.bring.new.self (seen c.in-Ok.datum) _ _ c.in-Ok.ensures.datum c.bring.ensures.stops c.bring.ensures.watch

pub returns-in-Err-clause-stops : goal.returns-in-Err-clause-stops
returns-in-Err-clause-stops g c =
    stops_refused g.C.Clock.moments g.N.Named.start g.N.Named.passes c.args.self.now c.moment-now.new.self c.args.line.now c.moment-now.result c.moment-now.ensures.new
    c.moment-now.ensures.told c.refuse.result c.refuse.new.self c.in-Err.fault _ _ (λ same. c.in-Err.ensures.memory (ap Err same)) c.refuse.ensures

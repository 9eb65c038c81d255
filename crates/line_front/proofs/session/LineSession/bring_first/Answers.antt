use Rattle.std.proofs.Common.{inl, refl, sym}
use Rattle.line_front.proofs.BringLemmas.{at_first, first_fewer}
use Rattle.line_front.proofs.session.LineSession.bring_first.Goals as goal

pub returns-in-Err-clause-stops : goal.returns-in-Err-clause-stops
returns-in-Err-clause-stops g c =
    at_first g.N.Named.start g.N.Named.passes c.args.points.now c.in-Err.stop c.args.self.now.session c.args.self.now.session c.requires.some
    (λ point. inl (c.in-Err.ensures.0, (refl, c.in-Err.ensures.1)))

pub returns-in-Err-bring-clause-stops : goal.returns-in-Err-bring-clause-stops
returns-in-Err-bring-clause-stops g c =
    first_fewer g.N.Named.start g.N.Named.passes c.args.points.now c.index-points-0.result c.requires.some (sym c.index-points-0.is) c.args.self.now.session c.bring.new.self.session
    c.in-Err-bring.stop c.in-Err-bring.ensures.stops

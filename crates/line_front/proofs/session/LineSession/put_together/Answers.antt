use Rattle.std.proofs.Common.{refl}
use Rattle.line_front.proofs.PutLemmas.{puts_together, stops_together}
use Rattle.line_front.proofs.session.LineSession.put_together.Goals as goal

pub returns-then-puts-points-clause-stops : goal.returns-then-puts-points-clause-stops
returns-then-puts-points-clause-stops g c =
    stops_together g.N.Named.start g.N.Named.passes c.args.points.now c.put_all-puts.result _ _ _ c.self.view_is c.requires.some c.requires.room refl c.count_puts.ensures
    c.if-puts-points.true c.put_all-puts.ensures.puts

pub returns-clause-puts : goal.returns-clause-puts
returns-clause-puts g c =
    puts_together g.N.Named.start g.N.Named.passes c.args.points.now c.put_all-puts.result _ _ _ c.self.view_is c.requires.some c.requires.room refl c.count_puts.ensures
    c.if-puts-points.false c.put_all-puts.ensures.puts

use Rattle.std.proofs.Common.{sym}
use Rattle.line_front.proofs.EmitLemmas.{first_few, first_put}
use Rattle.line_front.proofs.emitting.put_first.Goals as goal

pub returns-in-Ok-clause-puts : goal.returns-in-Ok-clause-puts
returns-in-Ok-clause-puts g c =
    first_put g.N.Named.start g.N.Named.passes c.args.points.now c.index-points-0.result c.args.pass.now c.put_point.new.pass c.requires.some (sym c.index-points-0.is)
    c.in-Ok.ensures.puts

pub returns-in-Err-clause-stops : goal.returns-in-Err-clause-stops
returns-in-Err-clause-stops g c =
    first_few g.N.Named.start g.N.Named.passes c.args.points.now c.in-Err.stop c.args.pass.now c.put_point.new.pass c.requires.some c.in-Err.ensures.stops

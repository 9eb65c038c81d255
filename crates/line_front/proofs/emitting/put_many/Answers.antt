use Rattle.line_front.proofs.PutLemmas.{many_few, many_put}
use Rattle.line_front.proofs.emitting.put_many.Goals as goal

pub returns-then-puts-points-clause-stops : goal.returns-then-puts-points-clause-stops
returns-then-puts-points-clause-stops g c =
    many_few g.N.Named.start g.N.Named.passes c.args.points.now c.put_all-puts.result c.args.pass.now c.put_all-puts.new.pass c.requires.some c.requires.room
    c.if-puts-points.true c.put_all-puts.ensures.puts

pub returns-clause-puts : goal.returns-clause-puts
returns-clause-puts g c =
    many_put g.N.Named.start g.N.Named.passes c.args.points.now c.put_all-puts.result c.args.pass.now c.put_all-puts.new.pass c.requires.some c.requires.room
    c.if-puts-points.false c.put_all-puts.ensures.puts

use Rattle.line_front.proofs.EmitLemmas.{few_of_part}
use Rattle.line_front.proofs.emitting.put_part.Goals as goal

pub returns-in-Err-clause-stops : goal.returns-in-Err-clause-stops
returns-in-Err-clause-stops g c =
    few_of_part g.N.Named.start g.N.Named.passes c.min-count.result c.args.points.now c.in-Err.stop c.args.pass.now c.put_many.new.pass c.in-Err.ensures.stops

use Rattle.std.proofs.Common.{arith, drop, length-drop}
use Rattle.std.proofs.lemmas.List.{take_rest}
use Rattle.line_front.specs.Emits.{PutsPart}
use Rattle.line_front.proofs.EmitLemmas.{emits_all, emits_few, emits_more}
use Rattle.line_front.proofs.emitting.put_emitted.Goals as goal

pub loop-at-preserved : goal.loop-at-preserved
loop-at-preserved g c =
    let points = c.args.points.now in
    let at = c.loop-at.at in
    let part : PutsPart g.N.Named.start g.N.Named.passes (drop at points) c.in-Ok.count c.loop-at.pass c.put_part.new.pass = simp take_rest at c.in-Ok.ensures.puts in record {
      few = omega (arith, part.few, length-drop at points, c.loop-at.invariant.few);
      puts = emits_more g.N.Named.start g.N.Named.passes at points c.args.pass.now c.loop-at.pass c.loop-at.invariant.puts c.in-Ok.count c.put_part.new.pass part;
    }

pub returns-in-Err-clause-stops : goal.returns-in-Err-clause-stops
returns-in-Err-clause-stops g c =
    let points = c.args.points.now in
    let at = c.loop-at.at in
    emits_few g.N.Named.start g.N.Named.passes at points c.args.pass.now c.loop-at.pass c.loop-at.invariant.puts c.in-Err.stop c.put_part.new.pass
    (simp take_rest at c.in-Err.ensures.stops)

pub returns-clause-puts : goal.returns-clause-puts
returns-clause-puts g c =
    emits_all g.N.Named.start g.N.Named.passes c.loop-at.at c.args.points.now c.args.pass.now c.loop-at.pass c.loop-at.invariant.puts c.loop-at-test.false

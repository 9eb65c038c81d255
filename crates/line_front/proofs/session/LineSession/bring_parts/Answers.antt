use Rattle.std.proofs.Common.{◌∙◌, arith, drop, length-drop}
use Rattle.std.proofs.lemmas.List.{take_rest}
use Rattle.line_front.specs.Bringing.{BringsFewer, BringsPart}
use Rattle.line_front.proofs.BringLemmas.{parts_fewer, parts_more}
use Rattle.line_front.proofs.session.LineSession.bring_parts.Goals as goal

pub loop-at-preserved : goal.loop-at-preserved
loop-at-preserved g c =
    let points = c.args.points.now in
    let at = c.loop-at.at in
    let part : BringsPart g.N.Named.start g.N.Named.passes (drop at points) c.in-Ok.count c.loop-at.self.session c.bring_part.new.self.session = simp take_rest at c.in-Ok.ensures.brings in record {
      few = omega (arith, part.few, length-drop at points, c.loop-at.invariant.few);
      brings = parts_more g.N.Named.start g.N.Named.passes points at c.args.self.now.session c.loop-at.self.session c.loop-at.invariant.brings c.in-Ok.count c.bring_part.new.self.session part;
      watch = c.in-Ok.ensures.watch ∙ c.loop-at.invariant.watch;
    }

pub returns-in-Err-clause-stops : goal.returns-in-Err-clause-stops
returns-in-Err-clause-stops g c =
    let points = c.args.points.now in
    let at = c.loop-at.at in
    let fewer : BringsFewer g.N.Named.start g.N.Named.passes c.in-Err.stop (drop at points) c.loop-at.self.session c.bring_part.new.self.session = simp take_rest at c.in-Err.ensures.stops in
    parts_fewer g.N.Named.start g.N.Named.passes points at c.args.self.now.session c.loop-at.self.session c.loop-at.invariant.brings c.in-Err.stop c.bring_part.new.self.session fewer

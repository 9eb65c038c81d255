use Rattle.std.proofs.Common.{ap, arith, length, length-append, ◌∷◌, []}
use Rattle.line_front.specs.Batches.{reading}
use Rattle.line_front.proofs.BatchLemmas.{reads_more}
use Rattle.line_front.proofs.batch.read_points.Goals as goal

pub loop-alloc-preserved : goal.loop-alloc-preserved
loop-alloc-preserved g c =
    let next = c.in-Ok.ensures.reads in record {
      reads = reads_more (g.C.Clock.moments c.args.clock.now) (reading c.args.watch.now c.args.framer.now) (reading c.loop-alloc.watch c.loop-alloc.framer)
          (reading c.read_next.new.watch c.read_next.new.framer) c.loop-alloc.points.items c.read_next.new.points.items c.loop-alloc.invariant.reads c.in-Ok.field-0 next c.in-Ok.ensures.open_line;
      few = omega (arith, ap length next.2.1.1, length-append c.loop-alloc.points.items (next.1 ∷ []), c.loop-alloc-test.true, c.len.ensures, c.loop-alloc.points.ok.0);
    }

use Rattle.std.proofs.Common.{◌≤◌, ◌-◌, length}
use Rattle.line_front.specs.Batches.{ReadsFirst, reading}
use Rattle.line_front.proofs.batch.read_points.Given as goal

abbrev pub invariant-loop-alloc : goal.invariant-loop-alloc
invariant-loop-alloc g l = record {
  reads : ReadsFirst (g.C.Clock.moments l.clock) (reading l.fn.watch l.fn.framer) (reading l.watch l.framer) l.points.items;
  few : length l.points.items ≤ 256;
}

abbrev pub decreases-loop-alloc : goal.decreases-loop-alloc
decreases-loop-alloc g l = 256 - length l.points.items

use Rattle.std.proofs.Common.{◌≡◌, ◌<◌, length}
use Rattle.time_range.specs.Columns.{front, fronts, kept}
use Rattle.time_range.specs.Spans.{spans_of}
use Rattle.time_range.proofs.difference.kept_difference.Given as goal

abbrev pub invariant-loop-place : goal.invariant-loop-place
invariant-loop-place l = record {
  same : l.kept ≡ kept (front l.place l.digits) (fronts l.place (spans_of l.spans));
  some : 0 < length l.sums;
}

abbrev pub decreases-loop-place : goal.decreases-loop-place
decreases-loop-place l = l.place

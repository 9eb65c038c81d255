use Rattle.std.proofs.Common.{◌≡◌, ℕ, List, ◌+◌, ◌<◌, ◌≤◌, ◌^◌, length, get_or}
use Rattle.time_range.specs.Columns.{column, front, fronts, kept}
use Rattle.time_range.proofs.difference.kept_down.Given as goal

abbrev pub invariant-loop-place : goal.invariant-loop-place
invariant-loop-place l = record {
  above : l.from ≤ l.place;
  below : l.place ≤ l.to;
  most : l.kept ≤ 2 ^ 101;
  value : (spans : List (List ℕ)) → l.start ≡ kept (front l.to l.digits) (fronts l.to spans)
      → ((k : ℕ) → k < length l.sums → get_or l.sums k 0 ≡ column (l.from + k) spans)
      → l.kept ≡ kept (front l.place l.digits) (fronts l.place spans);
}

abbrev pub decreases-loop-place : goal.decreases-loop-place
decreases-loop-place l = l.place

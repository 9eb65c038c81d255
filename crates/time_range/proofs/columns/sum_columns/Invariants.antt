use Rattle.std.proofs.Common.{◌≡◌, ℕ, ◌+◌, ◌<◌, length, get_or}
use Rattle.time_range.specs.Columns.{column}
use Rattle.time_range.specs.Spans.{spans_of}
use Rattle.time_range.proofs.columns.sum_columns.Given as goal

abbrev pub invariant-loop-rest : goal.invariant-loop-rest
invariant-loop-rest l = record {
  all : length l.sums ≡ length l.fn.sums;
  each : (k : ℕ) → k < length l.fn.sums → column (l.from + k) (spans_of l.spans) ≡ get_or l.sums k 0 + column (l.from + k) (spans_of l.rest);
}

abbrev pub decreases-loop-rest : goal.decreases-loop-rest
decreases-loop-rest l = length l.rest

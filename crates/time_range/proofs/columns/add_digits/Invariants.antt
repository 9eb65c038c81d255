use Rattle.std.proofs.Common.{◌≡◌, ℕ, ◌+◌, ◌*◌, ◌<◌, ◌≤◌, length, get_or}
use Rattle.time_range.specs.Columns.{digit_at}
use Rattle.time_range.proofs.columns.add_digits.Given as goal

abbrev pub invariant-loop-k : goal.invariant-loop-k
invariant-loop-k l = record {
  all : length l.sums ≡ length l.fn.sums;
  done : (j : ℕ) → j < l.k → get_or l.sums j 0 ≡ get_or l.fn.sums j 0 + l.unit * digit_at (l.from + j) l.digits;
  left : (j : ℕ) → l.k ≤ j → get_or l.sums j 0 ≡ get_or l.fn.sums j 0;
}

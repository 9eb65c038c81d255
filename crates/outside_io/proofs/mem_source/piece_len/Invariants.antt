-- The piece so far goes across none of the cuts that were looked at.
use Rattle.std.proofs.Common.{ℕ, ◌+◌, ◌<◌, ◌≤◌, get_or}
use Rattle.outside_io.proofs.mem_source.piece_len.Given as goal

abbrev pub invariant-loop-cut : goal.invariant-loop-cut
invariant-loop-cut l = record {
  some : 0 < l.piece;
  bound : l.piece ≤ l.most;
  uncut : (k : ℕ) → k < l.cut-index → l.at < get_or l.cuts k 0 → l.at + l.piece ≤ get_or l.cuts k 0;
}

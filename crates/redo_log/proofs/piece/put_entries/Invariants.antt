-- The cells so far are written, and fit.
use Rattle.std.proofs.Common.{◌≡◌, ◌+◌, ◌*◌, ◌++◌, take, All}
use Rattle.redo_log.specs.Body.{Fits, entries_bytes, entry_size}
use Rattle.redo_log.proofs.piece.put_entries.Given as goal

abbrev pub invariant-loop-k : goal.invariant-loop-k
invariant-loop-k l = record {
  bytes : take (l.at + entry_size * l.k) l.out ≡ take l.at l.fn.out ++ entries_bytes (take l.k l.cells);
  fit : All Fits (take l.k l.cells);
}

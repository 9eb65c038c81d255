use Rattle.std.proofs.Common.{◌≡◌, ℕ, ◌+◌, ◌*◌, ◌<◌}
use Rattle.ring_format.specs.Head.{number_at}
use Rattle.ring_format.specs.LayoutFile.{offset_in, row_size}
use Rattle.ring_format.specs.Cell.{cell_size_in}
use Rattle.ring_format.proofs.head_reading.misplaced_archive.Given as goal

abbrev pub invariant-loop-i : goal.invariant-loop-i
invariant-loop-i l = record {
  cell : l.cell ≡ cell_size_in l.version;
  here : l.offset ≡ offset_in l.version l.archives l.i;
  before : (k : ℕ) → k < l.i → number_at (16 + row_size * k) l.bytes ≡ offset_in l.version l.archives k;
}

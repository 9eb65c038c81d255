use Rattle.std.proofs.Common.{◌≡◌, ◌+◌, ◌*◌, ◌++◌, take, drop}
use Rattle.ring_format.specs.LayoutFile.{offset_of, row_size}
use Rattle.ring_format.specs.Head.{rows_bytes, rows_of}
use Rattle.ring_format.proofs.head.put_rows.Given as goal

abbrev pub invariant-loop-archive : goal.invariant-loop-archive
invariant-loop-archive l = record {
  end : l.at ≡ 16 + row_size * l.archive-index;
  offset : l.offset ≡ offset_of l.archives l.archive-index;
  written : take l.at l.out ≡ take 16 l.fn.out ++ rows_bytes (take l.archive-index (rows_of 2 l.archives));
  behind : drop l.at l.out ≡ drop l.at l.fn.out;
}

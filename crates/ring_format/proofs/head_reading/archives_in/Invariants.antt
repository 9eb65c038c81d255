use Rattle.std.proofs.Common.{◌≡◌, length, map}
use Rattle.std.specs.List.{range_with_len}
use Rattle.ring_format.specs.Head.{archive_at}
use Rattle.ring_format.proofs.head_reading.archives_in.Given as goal

abbrev pub invariant-loop-i : goal.invariant-loop-i
invariant-loop-i l = record {
  count : length l.archives ≡ l.i;
  read : l.archives ≡ map (archive_at l.bytes) (range_with_len 0 l.i);
}

-- No byte so far is other than zero where no bit is set.
use Rattle.std.proofs.Common.{◌≡◌}
use Rattle.std.specs.Prelude.{take}
use Rattle.std.specs.List.{list_all}
use Rattle.ring_format.specs.Head.{is_zero}
use Rattle.ring_archive.proofs.stale.is_zero.Given as goal

abbrev pub invariant-loop-byte : goal.invariant-loop-byte
invariant-loop-byte l = is_zero l.bits ≡ list_all is_zero (take l.byte-index l.bytes)

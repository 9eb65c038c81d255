-- The slots so far whose cell is not zero.
use Rattle.std.proofs.Common.{◌≡◌}
use Rattle.std.specs.Prelude.{filter}
use Rattle.std.specs.List.{range_with_len}
use Rattle.ring_archive.specs.Ring.{is_laid}
use Rattle.ring_archive.specs.Held.{cell_behind}
use Rattle.ring_archive.proofs.stale.patched_slots.Given as goal

abbrev pub invariant-loop-slot : goal.invariant-loop-slot
invariant-loop-slot l = l.slots.items ≡ filter (λ slot. is_laid (cell_behind l.patch.cells l.round l.bytes slot)) (range_with_len 0 l.slot)

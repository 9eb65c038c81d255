-- The slots of the block so far.
use Rattle.std.proofs.Common.{◌≡◌, ◌++◌, ◌-◌}
use Rattle.ring_archive.specs.Held.{held_slots}
use Rattle.ring_archive.proofs.stale.add_block.Given as goal

abbrev pub invariant-loop-slot : goal.invariant-loop-slot
invariant-loop-slot l = l.slots.items ≡ l.fn.slots.items ++ held_slots l.version l.bytes l.first (l.slot - l.first)

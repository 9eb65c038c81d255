-- The slots of the blocks so far.
use Rattle.std.proofs.Common.{◌≡◌, ◌-◌, ◌≤◌}
use Rattle.ring_archive.specs.Held.{held_slots}
use Rattle.ring_archive.proofs.stale.held_slots.Given as goal

abbrev pub invariant-loop-end : goal.invariant-loop-end
invariant-loop-end l = (l.end ≤ l.points) × (l.slots.items ≡ held_slots l.version l.bytes 0 l.end)

abbrev pub decreases-loop-end : goal.decreases-loop-end
decreases-loop-end l = l.points - l.end

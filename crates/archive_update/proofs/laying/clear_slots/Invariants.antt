-- The slots so far hold zero.
use Rattle.archive_update.specs.Laid.{IsAlike, IsCleared}
use Rattle.archive_update.proofs.laying.clear_slots.Given as goal

abbrev pub invariant-loop-slot : goal.invariant-loop-slot
invariant-loop-slot l = record {
  cleared : IsCleared l.fn.patch l.patch l.archive l.slots l.slot-index;
  alike : IsAlike l.fn.patch l.patch;
}

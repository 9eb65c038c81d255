use Rattle.std.proofs.Common.{◌∙◌, sym, ap, ◌++◌, ◌∷◌, [], List, ℕ, arith}
use Rattle.ring_archive.specs.Ring.{is_laid}
use Rattle.ring_archive.specs.Held.{cell_behind}
use Rattle.ring_archive.proofs.RangeLists.{filter_keeps, filter_passes}
use Rattle.ring_archive.proofs.stale.patched_slots.Goals as goal
use Rattle.ring_archive.proofs.stale.patched_slots.Goals.{then-is_laid+in_ok-push, else-is_laid}

pub loop-slot-preserved : goal.loop-slot-preserved
loop-slot-preserved c =
    let test = λ (slot : ℕ). is_laid (cell_behind c.args.patch.now.cells c.args.round c.args.bytes.now slot) in
    elim c.if-is_laid.branch [
      | then-is_laid+in_ok-push w ↦ ap (λ slots. slots.items) w.slots-is ∙ w.in_ok-push.ensures.items ∙ ap (λ (slots : List ℕ). slots ++ c.loop-slot.slot ∷ []) c.loop-slot.invariant
          ∙ sym (filter_keeps test 0 c.loop-slot.slot c.loop-slot.slot (omega arith) (ap is_laid (sym c.cell_behind.ensures) ∙ sym w.if-is_laid.ensures))
      | else-is_laid w ↦ ap (λ slots. slots.items) w.slots-is ∙ c.loop-slot.invariant
          ∙ sym (filter_passes test 0 c.loop-slot.slot c.loop-slot.slot (omega arith) (ap is_laid (sym c.cell_behind.ensures) ∙ sym w.if-is_laid.ensures))
    ]

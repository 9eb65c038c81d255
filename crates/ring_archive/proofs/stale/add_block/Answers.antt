use Rattle.std.proofs.Common.{◌∙◌, sym, ap}
use Rattle.ring_archive.specs.Ring.{is_laid}
use Rattle.ring_archive.proofs.StaleLemmas.{block_begun, block_passed, slot_kept, slot_passed}
use Rattle.ring_archive.proofs.stale.add_block.Goals as goal
use Rattle.ring_archive.proofs.stale.add_block.Goals.{then-is_laid+in_ok-push, else-is_laid}

pub returns-then-is_zero : goal.returns-then-is_zero
returns-then-is_zero c = block_passed c.args.version _ c.args.bytes.now c.args.first c.args.end c.requires.order c.requires.held (rw c.cell_bytes_in-size.ensures at (sym c.is_zero.ensures ∙ c.if-is_zero.true))

pub loop-slot-init : goal.loop-slot-init
loop-slot-init c = block_begun c.args.version _ c.args.bytes.now c.args.first

pub loop-slot-preserved : goal.loop-slot-preserved
loop-slot-preserved c =
    elim c.if-is_laid.branch [
      | then-is_laid+in_ok-push w ↦ slot_kept c.args.version _ c.loop-slot.slots.items _ c.args.bytes.now c.args.first c.loop-slot.slot c.loop-slot.auto.slot c.loop-slot.invariant
          (ap (λ slots. slots.items) w.slots-is ∙ w.in_ok-push.ensures.items) (ap is_laid (sym c.held_cell.ensures) ∙ sym w.if-is_laid.ensures)
      | else-is_laid w ↦ slot_passed c.args.version _ c.loop-slot.slots.items _ c.args.bytes.now c.args.first c.loop-slot.slot c.loop-slot.auto.slot c.loop-slot.invariant
          (ap (λ slots. slots.items) w.slots-is) (ap is_laid (sym c.held_cell.ensures) ∙ sym w.if-is_laid.ensures)
    ]

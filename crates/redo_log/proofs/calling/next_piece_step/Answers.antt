use Rattle.std.proofs.Common.{◌≤◌, arith, length}
use Rattle.redo_log.proofs.StepLemmas.{next_piece_leads, next_piece_put, next_piece_torn, next_piece_within, written_low}
use Rattle.std.proofs.Common.{refl, subst, sym, Some, ◌+◌, ◌*◌, take}
use Rattle.redo_log.specs.Rows.{InRow}
use Rattle.redo_log.specs.Steps.{on_way, with_next}
use Rattle.redo_log.specs.declared.next_step.NextStep.{NextStep}
use Rattle.redo_log.specs.declared.next_step.NextStep.TheVariants.{Piece}
use Rattle.redo_log.proofs.CrashRows.{closed_next, next_closed, piece_row}
use Rattle.redo_log.proofs.calling.next_piece_step.Goals as goal

pub overflow_mul-at : goal.overflow_mul-at
overflow_mul-at g c =
    let low : c.args.written ≤ length c.patch_of-patch.result.now.cells = written_low c.args.shelf.now c.patch_of-patch.result.now c.args.written c.requires.some c.patch_of-patch.ensures c.requires.written in
    omega (arith, low, c.cells_are_few.ensures.few)

pub overflow_add-at : goal.overflow_add-at
overflow_add-at g c =
    let low : c.args.written ≤ length c.patch_of-patch.result.now.cells = written_low c.args.shelf.now c.patch_of-patch.result.now c.args.written c.requires.some c.patch_of-patch.ensures c.requires.written in
    omega (arith, low, c.cells_are_few.ensures.few, c.leading_len.ensures.low)

pub write_log-requires : goal.write_log-requires
write_log-requires g c =
    next_piece_within c.args.shelf.now c.args.name.now c.patch_of-patch.result.now c.args.written _ c.put_next_piece-piece.result.len c.put_next_piece-piece.result.cells c.put_next_piece-piece.new.out _ c.requires.some c.patch_of-patch.ensures
    c.requires.written (omega (arith, c.leading_len.ensures.value)) c.put_next_piece-piece.ensures c.requires.ready

pub overflow_add-written : goal.overflow_add-written
overflow_add-written g c = omega (arith, c.put_next_piece-piece.ensures.within, c.cells_are_few.ensures.few)

pub returns-in-Ok-clause-ends : goal.returns-in-Ok-clause-ends
returns-in-Ok-clause-ends g c = (
  next_piece_put c.args.shelf.now c.args.name.now c.patch_of-patch.result.now c.args.written _ c.put_next_piece-piece.result.len c.put_next_piece-piece.result.cells c.put_next_piece-piece.new.out c.behind_cells.result _ _ c.requires.some
      c.requires.named c.patch_of-patch.ensures c.requires.written (omega (arith, c.leading_len.ensures.value)) c.put_next_piece-piece.ensures c.behind_cells.ensures c.requires.ready c.in-Ok.ensures.ok,
  next_piece_leads c.args.shelf.now c.patch_of-patch.result.now c.args.written c.put_next_piece-piece.result.len c.put_next_piece-piece.result.cells c.put_next_piece-piece.new.out c.behind_cells.result c.patch_of-patch.ensures c.requires.written
      c.put_next_piece-piece.ensures c.behind_cells.ensures,
)

pub returns-in-Err-clause-ends : goal.returns-in-Err-clause-ends
returns-in-Err-clause-ends g c =
    next_piece_torn c.args.shelf.now c.args.name.now c.patch_of-patch.result.now c.args.written _ c.put_next_piece-piece.result.len c.put_next_piece-piece.result.cells c.put_next_piece-piece.new.out _ _ c.requires.some c.requires.named
    c.patch_of-patch.ensures c.requires.written (omega (arith, c.leading_len.ensures.value)) c.put_next_piece-piece.ensures c.requires.ready c.in-Err.ensures.err

pub returns-in-Ok-clause-row : goal.returns-in-Ok-clause-row
returns-in-Ok-clause-row g c = λ row.
    subst (λ (n : NextStep). InRow (Some (with_next (on_way c.args.shelf.now c.args.name.now (Piece c.args.written)) n)) (g.D.Disk.image c.write_log.new.disk) (g.D.Disk.may_leave c.write_log.new.disk)) (sym c.behind_cells.ensures)
    (piece_row c.args.shelf.now c.args.name.now (Piece c.args.written) (c.args.written + c.put_next_piece-piece.result.cells) (c.leading_len.result + 28 * c.args.written) (length (take c.put_next_piece-piece.result.len c.put_next_piece-piece.new.out)) c.patch_of-patch.result.now _ _ _ _ _ c.requires.some (closed_next c.args.shelf.now c.args.name.now c.args.written) (next_closed c.args.shelf.now c.args.name.now c.args.written) refl
    (λ u v puts. puts.1) c.in-Ok.ensures.ok c.write_log.ensures.crash row).0

pub returns-in-Err-clause-row : goal.returns-in-Err-clause-row
returns-in-Err-clause-row g c = λ row.
    (piece_row c.args.shelf.now c.args.name.now (Piece c.args.written) 0 (c.leading_len.result + 28 * c.args.written) (length (take c.put_next_piece-piece.result.len c.put_next_piece-piece.new.out)) c.patch_of-patch.result.now _ _ _ _ _ c.requires.some (closed_next c.args.shelf.now c.args.name.now c.args.written) (next_closed c.args.shelf.now c.args.name.now c.args.written) refl (λ u v tears. tears.1) c.in-Err.ensures.err
    c.write_log.ensures.crash row).1

use Rattle.redo_log.proofs.StepLemmas.{first_piece_leads, first_piece_put, first_piece_torn, first_piece_within}
use Rattle.std.proofs.Common.{refl, subst, sym, Some, length, take}
use Rattle.redo_log.specs.Rows.{InRow}
use Rattle.redo_log.specs.Steps.{on_way, with_next}
use Rattle.redo_log.specs.declared.next_step.NextStep.{NextStep}
use Rattle.redo_log.specs.declared.next_step.NextStep.TheVariants.{FirstPiece}
use Rattle.redo_log.proofs.CrashRows.{closed_first, first_closed, piece_row}
use Rattle.redo_log.proofs.calling.first_piece_step.Goals as goal

pub write_log-requires : goal.write_log-requires
write_log-requires g c =
    first_piece_within c.args.shelf.now c.args.name.now c.patch_of-patch.result.now c.put_first_piece-piece.result.len c.put_first_piece-piece.result.cells c.put_first_piece-piece.new.out _ c.requires.some c.patch_of-patch.ensures
    c.put_first_piece-piece.ensures c.requires.ready

pub returns-in-Ok-clause-ends : goal.returns-in-Ok-clause-ends
returns-in-Ok-clause-ends g c = (
  first_piece_put c.args.shelf.now c.args.name.now c.patch_of-patch.result.now c.put_first_piece-piece.result.len c.put_first_piece-piece.result.cells c.put_first_piece-piece.new.out c.behind_cells.result _ _ c.requires.some c.requires.named
      c.patch_of-patch.ensures c.put_first_piece-piece.ensures c.behind_cells.ensures c.requires.ready c.in-Ok.ensures.ok,
  first_piece_leads c.args.shelf.now c.patch_of-patch.result.now c.put_first_piece-piece.result.len c.put_first_piece-piece.result.cells c.put_first_piece-piece.new.out c.behind_cells.result c.patch_of-patch.ensures c.put_first_piece-piece.ensures c.behind_cells.ensures,
)

pub returns-in-Err-clause-ends : goal.returns-in-Err-clause-ends
returns-in-Err-clause-ends g c =
    first_piece_torn c.args.shelf.now c.args.name.now c.patch_of-patch.result.now c.put_first_piece-piece.result.len c.put_first_piece-piece.result.cells c.put_first_piece-piece.new.out _ _ c.requires.some c.requires.named
    c.put_first_piece-piece.ensures c.requires.ready c.in-Err.ensures.err

pub returns-in-Ok-clause-row : goal.returns-in-Ok-clause-row
returns-in-Ok-clause-row g c = λ row.
    subst (λ (n : NextStep). InRow (Some (with_next (on_way c.args.shelf.now c.args.name.now FirstPiece) n)) (g.D.Disk.image c.write_log.new.disk) (g.D.Disk.may_leave c.write_log.new.disk)) (sym c.behind_cells.ensures)
    (piece_row c.args.shelf.now c.args.name.now FirstPiece c.put_first_piece-piece.result.cells 0 (length (take c.put_first_piece-piece.result.len c.put_first_piece-piece.new.out)) c.patch_of-patch.result.now _ _ _ _ _ c.requires.some (closed_first c.args.shelf.now c.args.name.now) (first_closed c.args.shelf.now c.args.name.now) refl
    (λ u v puts. puts.1) c.in-Ok.ensures.ok c.write_log.ensures.crash row).0

pub returns-in-Err-clause-row : goal.returns-in-Err-clause-row
returns-in-Err-clause-row g c = λ row.
    (piece_row c.args.shelf.now c.args.name.now FirstPiece 0 0 (length (take c.put_first_piece-piece.result.len c.put_first_piece-piece.new.out)) c.patch_of-patch.result.now _ _ _ _ _ c.requires.some (closed_first c.args.shelf.now c.args.name.now) (first_closed c.args.shelf.now c.args.name.now) refl (λ u v tears. tears.1) c.in-Err.ensures.err
    c.write_log.ensures.crash row).1

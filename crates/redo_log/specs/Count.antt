-- How many steps of a patch are left at most.
use Rattle.std.specs.Prelude.{◌≡◌, ℕ, ◌+◌, ◌-◌, ◌/◌, ◌<◌, ◌≤◌, length, Option, None, Some}
use Rattle.write_shelf.specs.Shelf.{DrainValue}
use Rattle.redo_log.specs.Steps.{RedoValue, piece_cells}
use Rattle.redo_log.specs.declared.next_step.NextStep.{NextStep}
use Rattle.redo_log.specs.declared.next_step.NextStep.TheVariants.{CreateLog, FirstPiece, Piece, SyncBody, OpenGate, SyncOpen, Run, SyncRuns, CloseGate, SyncClose}
use Rattle.redo_log.specs.declared.redo_step.RedoStep.{RedoStep}
use Rattle.redo_log.specs.declared.redo_step.RedoStep.TheVariants.{Run as Taken, Finished, Nothing, DiskFault}

-- the pieces in which so many cells are written, at most
abbrev pub pieces_of : ℕ → ℕ
pieces_of cells = cells / piece_cells + 1

-- the steps from that one on
abbrev pub left_by : DrainValue → NextStep → ℕ
left_by drain CreateLog = 7 + (pieces_of (length drain.patch.cells) + length drain.left)
left_by drain FirstPiece = 6 + (pieces_of (length drain.patch.cells) + length drain.left)
left_by drain (Piece written) = 6 + (pieces_of (length drain.patch.cells - written) + length drain.left)
left_by drain SyncBody = 6 + length drain.left
left_by drain OpenGate = 5 + length drain.left
left_by drain SyncOpen = 4 + length drain.left
left_by drain Run = 3 + length drain.left
left_by drain SyncRuns = 3
left_by drain CloseGate = 2
left_by drain SyncClose = 1

abbrev pub left_of : Option DrainValue → NextStep → ℕ
left_of None next = 0
left_of (Some drain) next = left_by drain next

-- none where there is no patch
abbrev pub steps_left : Option RedoValue → ℕ
steps_left None = 0
steps_left (Some redo) = left_of redo.drain redo.next

-- a step that was taken leaves fewer of them, and none where it was the last
abbrev pub StepsFall : RedoStep → ℕ → ℕ → Type 0
StepsFall Taken before after = after < before
StepsFall Finished before after = (1 ≤ before) × (after ≡ 0)
StepsFall Nothing before after = after ≡ before
StepsFall DiskFault before after = after ≡ before

-- What a crash may leave of a disk on which a patch is on its way, by the next step.
use Rattle.std.specs.Prelude.{◌≡◌, ◌≢◌, ℕ, ⊤, false, List, Option, None, Some, IfSome, IsSomeAnd, Result, Ok, Err}
use Rattle.outside_io.specs.Image.{Image}
use Rattle.outside_io.specs.declared.disk.DiskFailed.{DiskFailed}
use Rattle.metric_path.specs.FileName.{file_name_of}
use Rattle.ring_format.specs.Patch.{PatchValue}
use Rattle.ring_archive.specs.Ring.{IsRingFile}
use Rattle.ring_writer.specs.PartWritten.{StaysRing}
use Rattle.redo_log.specs.Body.{IsSound, body_bytes}
use Rattle.redo_log.specs.Steps.{IsClosed, IsGate, IsOpen, RedoValue, gate_name, log_name, with_next}
use Rattle.redo_log.specs.declared.next_step.NextStep.{NextStep}
use Rattle.redo_log.specs.declared.redo_step.RedoStep.{RedoStep}
use Rattle.redo_log.specs.declared.redo_step.RedoStep.TheVariants.{Run, Finished, Nothing, DiskFault}
use Rattle.redo_log.specs.declared.next_step.NextStep.TheVariants.{CreateLog, FirstPiece, Piece, SyncBody, OpenGate, SyncOpen, Run as RunStep, SyncRuns, CloseGate, SyncClose}

-- all files but the log and the gate are as they read
abbrev pub KeepsRings : Image → Image → Type 0
KeepsRings now left = (name : List ℕ) → name ≢ log_name → name ≢ gate_name → left name ≡ now name

-- a closed gate, and the rings as they read
pub record LeavesClosed (now left : Image) : Type 0 where
  pub gate : IsClosed (left gate_name)
  pub rings : KeepsRings now left

-- the body in the log, the gate open or closed, and the rings as they read
pub record LeavesEither (patch : PatchValue) (now left : Image) : Type 0 where
  pub sound : IsSound patch
  pub log : left log_name ≡ Some (body_bytes patch)
  pub gate : IsGate (left gate_name)
  pub rings : KeepsRings now left

-- The body in the log, an open gate, and the rings as they read, but for the file of the patch: where the patch is fresh
-- anything or nothing stands under its name, and else a ring file that reads under the patch as the file that reads now.
pub record LeavesOpen (patch : PatchValue) (file : List ℕ) (now left : Image) : Type 0 where
  pub sound : IsSound patch
  pub named : file ≡ file_name_of patch.path
  pub log : left log_name ≡ Some (body_bytes patch)
  pub gate : IsOpen (left gate_name)
  pub others : (name : List ℕ) → name ≢ log_name → name ≢ gate_name → name ≢ file → left name ≡ now name
  pub ring : patch.fresh ≡ false → IsSomeAnd (now file) (IsRingFile patch.layout) → StaysRing patch file now left

-- the row of the next step
abbrev pub LeavesBy : PatchValue → List ℕ → NextStep → Image → Image → Type 0
LeavesBy patch file CreateLog now left = LeavesClosed now left
LeavesBy patch file FirstPiece now left = LeavesClosed now left
LeavesBy patch file (Piece written) now left = LeavesClosed now left
LeavesBy patch file SyncBody now left = LeavesClosed now left
LeavesBy patch file OpenGate now left = LeavesEither patch now left
LeavesBy patch file SyncOpen now left = LeavesEither patch now left
LeavesBy patch file RunStep now left = LeavesOpen patch file now left
LeavesBy patch file SyncRuns now left = LeavesOpen patch file now left
LeavesBy patch file CloseGate now left = LeavesEither patch now left
LeavesBy patch file SyncClose now left = LeavesEither patch now left

abbrev pub MayLeave : Option RedoValue → Image → Image → Type 0
MayLeave None now left = LeavesClosed now left
MayLeave (Some redo) now left = IfSome redo.drain (λ drain. LeavesBy drain.patch redo.name redo.next now left)

-- each image that a crash now may leave is one of its row
abbrev pub InRow : Option RedoValue → Option Image → (Image → Type 0) → Type 0
InRow redo known may_leave = IfSome known (λ now. (left : Image) → may_leave left → MayLeave redo now left)

-- the redo with that step as its next; none behind the last
abbrev pub goes_on : RedoValue → Option NextStep → Option RedoValue
goes_on redo None = None
goes_on redo (Some next) = Some (with_next redo next)

-- a call that kept to the row: where it succeeded to that of the step behind, and else to its own
abbrev pub KeepsRow : RedoValue → Result (Option NextStep) DiskFailed → Option Image → Option Image → (Image → Type 0) → (Image → Type 0) → Type 0
KeepsRow redo (Ok behind) a b old new = InRow (Some redo) a old → InRow (goes_on redo behind) b new
KeepsRow redo (Err fault) a b old new = InRow (Some redo) a old → InRow (Some redo) b new

-- the same of a step of a redo
abbrev pub GoesInRow : RedoStep → RedoValue → RedoValue → Option Image → Option Image → (Image → Type 0) → (Image → Type 0) → Type 0
GoesInRow Run old new a b before after = InRow (Some old) a before → InRow (Some new) b after
GoesInRow Finished old new a b before after = InRow (Some old) a before → InRow None b after
GoesInRow Nothing old new a b before after = ⊤
GoesInRow DiskFault old new a b before after = InRow (Some old) a before → InRow (Some new) b after

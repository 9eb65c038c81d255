-- How the drains of a class are written: straight to their files, or through the log.
use Rattle.std.specs.Prelude.{◌≡◌, ◌⊎◌, ℕ, Bool, true, false, ⊤, List, [], length, Option, None, Some, IfSome, IsSome}
use Rattle.std.specs.Option.{option_map_or}
use Rattle.outside_io.specs.Image.{Image, WhereKnown}
use Rattle.outside_io.specs.declared.disk.Disk.{Ghosts as DiskGhosts}
use Rattle.metric_path.specs.FileName.{file_name_of}
use Rattle.ring_writer.specs.PartWritten.{Awaits, RunTorn, RunWritten}
use Rattle.write_shelf.specs.Shelf.{DrainValue, IsBegun, IsRunOf, OfNext, marked}
use Rattle.write_shelf.specs.declared.run.Run.{Run as ShelfRun}
use Rattle.redo_log.specs.Count.{StepsFall, steps_left}
use Rattle.redo_log.specs.Ends.{RedoEnds}
use Rattle.redo_log.specs.Frame.{StaysInRows}
use Rattle.redo_log.specs.Recovery.{is_open}
use Rattle.redo_log.specs.Rows.{InRow}
use Rattle.redo_log.specs.Steps.{IsClosed, IsGoing, IsReady, RedoValue, gate_name, on_way}
use Rattle.redo_log.specs.declared.next_step.NextStep.{NextStep}
use Rattle.redo_log.specs.declared.next_step.NextStep.TheVariants.{CreateLog, FirstPiece, Piece, SyncBody, OpenGate, SyncOpen, Run as RunStep, SyncRuns, CloseGate, SyncClose}
use Rattle.redo_log.specs.declared.redo_step.RedoStep.{RedoStep}
use Rattle.redo_log.specs.declared.redo_step.RedoStep.TheVariants as redo
use Rattle.shard_core.specs.declared.planned.Wrote.{Wrote}
use Rattle.shard_core.specs.declared.planned.Wrote.TheVariants.{Run, Finished, Nothing, DiskFault}

-- the runs that are left to the file, by the next step of the log: none behind the last one
abbrev pub left_at : NextStep → List ShelfRun → List ShelfRun
left_at CreateLog left = left
left_at FirstPiece left = left
left_at (Piece written) left = left
left_at SyncBody left = left
left_at OpenGate left = left
left_at SyncOpen left = left
left_at RunStep left = left
left_at SyncRuns left = []
left_at CloseGate left = []
left_at SyncClose left = []

abbrev pub drain_at : NextStep → Option DrainValue → Option DrainValue
drain_at next None = None
drain_at next (Some drain) = Some (record { patch = drain.patch; left = left_at next drain.left })

-- the drain of a redo, with the runs that are left to its file
abbrev pub drain_of : Option RedoValue → Option DrainValue
drain_of None = None
drain_of (Some r) = drain_at r.next r.drain

-- the redo of a drain that stands at its first step
abbrev pub first_step : Option DrainValue → Option RedoValue
first_step None = None
first_step (Some drain) = Some (on_way (Some drain) (file_name_of drain.patch.path) CreateLog)

-- What is being written: a patch with the runs that are left to its file, how many steps that takes at most, and, where drains go
-- through the log, how far it came there.
pub record WorkValue : Type 0 where
  pub shelf : Option DrainValue
  pub steps : ℕ
  pub log : Option (Option RedoValue)

abbrev pub straight_work : Option DrainValue → WorkValue
straight_work shelf = record { shelf = shelf; steps = option_map_or (λ drain. length drain.left) shelf 0; log = None }

abbrev pub logged_work : Option RedoValue → WorkValue
logged_work r = record { shelf = drain_of r; steps = steps_left r; log = Some r }

abbrev pub work_of : Option DrainValue → Option (Option RedoValue) → WorkValue
work_of shelf None = straight_work shelf
work_of shelf (Some r) = logged_work r

-- nothing is being written
abbrev pub no_work : Bool → WorkValue
no_work true = logged_work None
no_work false = straight_work None

-- what the log needs of the disk
abbrev pub HoldsRedo : Option RedoValue → Image → Type 0
HoldsRedo None image = IsClosed (image gate_name)
HoldsRedo (Some r) image = IsReady r image

-- and where drains go straight to their files the gate is not open
abbrev pub HoldsLog : Option (Option RedoValue) → Option Image → Type 0
HoldsLog None known = IfSome known (λ image. is_open (image gate_name) ≡ false)
HoldsLog (Some r) known = IfSome known (HoldsRedo r)

-- the file is as far written as the runs need that are left
abbrev pub AwaitsRuns : Option DrainValue → Image → Type 0
AwaitsRuns shelf image = IfSome shelf (λ drain. Awaits drain.patch drain.left (image (file_name_of drain.patch.path)))

-- A step of the log keeps to the table of what a crash leaves: behind it that is the row of the next step, and at each moment of it this
-- row or its own.
abbrev pub StaysInRow : {D : Type 0} (d : DiskGhosts D) → Option (Option RedoValue) → Option (Option RedoValue) → D → D → Type 0
StaysInRow d None log old new = ⊤
StaysInRow d (Some before) None old new = ⊥
StaysInRow d (Some before) (Some behind) old new = InRow before (d.image old) (d.may_leave old) → StaysInRows d before behind old new

-- ---- straight to the file

-- the next run is written to the file of its patch, and is marked
pub record RunsOn (old new : Option DrainValue) (a b : Option Image) : Type 0 where
  pub some : IsSome old
  pub begun : IfSome old IsBegun
  pub marked : new ≡ marked old
  pub sound : OfNext new IsRunOf
  pub written : WhereKnown a b (λ before after. IfSome old (λ drain. RunWritten drain (file_name_of drain.patch.path) before after))

-- it was to be written, and comes again
pub record RunFails (old new : Option DrainValue) (a b : Option Image) : Type 0 where
  pub some : IsSome old
  pub same : new ≡ old
  pub sound : OfNext old IsRunOf
  pub begun : IfSome old IsBegun
  pub torn : WhereKnown a b (λ before after. IfSome old (λ drain. RunTorn drain (file_name_of drain.patch.path) before after))

abbrev pub GoesStraight : Wrote → Option DrainValue → Option DrainValue → Option Image → Option Image → Type 0
GoesStraight Run old new a b = RunsOn old new a b × IsSome new
GoesStraight Finished old new a b = RunsOn old new a b × (new ≡ None)
GoesStraight Nothing old new a b = (old ≡ None) × (new ≡ old) × (b ≡ a)
GoesStraight DiskFault old new a b = RunFails old new a b

-- ---- through the log

abbrev pub step_of : Wrote → RedoStep
step_of Run = redo.Run
step_of Finished = redo.Finished
step_of Nothing = redo.Nothing
step_of DiskFault = redo.DiskFault

-- a step of a redo, before and behind which it has what its steps need
pub record GoesThrough (end : Wrote) (old new : Option RedoValue) (a b : Option Image) : Type 0 where
  pub ends : RedoEnds (step_of end) old new a b
  pub falls : StepsFall (step_of end) (steps_left old) (steps_left new)
  pub going : IfSome old IsGoing
  pub later : IfSome new IsGoing
  pub ready : IfSome new (λ r. IfSome b (IsReady r))

-- ---- either way

pub record GoesWithout (end : Wrote) (old new : WorkValue) (a b : Option Image) : Type 0 where
  pub was : old ≡ straight_work old.shelf
  pub is : new ≡ straight_work new.shelf
  pub goes : GoesStraight end old.shelf new.shelf a b

pub record GoesLogged (end : Wrote) (old new : WorkValue) (a b : Option Image) : Type 0 where
  pub before : Option RedoValue
  pub behind : Option RedoValue
  pub was : old ≡ logged_work before
  pub is : new ≡ logged_work behind
  pub goes : GoesThrough end before behind a b

abbrev pub WorkGoes : Wrote → WorkValue → WorkValue → Option Image → Option Image → Type 0
WorkGoes end old new a b = GoesWithout end old new a b ⊎ GoesLogged end old new a b

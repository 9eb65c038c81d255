-- What a plan and the write of a run make of the tail of a class.
use Rattle.std.specs.Prelude.{ℕ, ◌≡◌, ◌<◌, Bool, Option, Some, None, if◌then◌else◌}
use Rattle.metric_path.specs.Path.{path_fault}
use Rattle.carbon_history.specs.declared.entry.Entry.{Entry}
use Rattle.carbon_history.specs.Entries.{drains}
use Rattle.carbon_model.specs.State.{State}
use Rattle.carbon_model.specs.Replay.{IsLegal, replay}
use Rattle.shard_core.specs.declared.planned.Planned.{Planned}
use Rattle.shard_core.specs.declared.planned.Planned.TheVariants as planned
use Rattle.shard_core.specs.declared.planned.Wrote.{Wrote}
use Rattle.shard_core.specs.declared.planned.Wrote.TheVariants as wrote
use Rattle.shared_history.specs.Events.{MayEnter}
use Rattle.shared_history.specs.Parts.{PassValue, TailValue, tail_ran, tail_settled, tail_with}
use Rattle.shared_store.specs.Passes.{EntersLast, SeesAll}

-- some drain is not settled
abbrev pub Owes : TailValue → Type 0
Owes tail = tail.settled < drains tail.list

-- a drain that was begun is settled where nothing of it is to be written
abbrev pub tail_begun : Planned → Bool → TailValue → TailValue
tail_begun (planned.Took path) shelved tail = if shelved then tail else tail_settled tail
tail_begun planned.Busy shelved tail = tail
tail_begun planned.Idle shelved tail = tail
tail_begun planned.DiskFault shelved tail = tail
tail_begun planned.NoMemory shelved tail = tail

abbrev pub OwesBegun : Planned → TailValue → Type 0
OwesBegun (planned.Took path) tail = Owes tail
OwesBegun planned.Busy tail = Unit {0}
OwesBegun planned.Idle tail = Unit {0}
OwesBegun planned.DiskFault tail = Unit {0}
OwesBegun planned.NoMemory tail = Unit {0}

-- a run that was written is counted, and with the last one of a drain the drain is settled
abbrev pub tail_wrote : Wrote → TailValue → TailValue
tail_wrote wrote.Run tail = tail_ran tail
tail_wrote wrote.Finished tail = tail_settled (tail_ran tail)
tail_wrote wrote.Nothing tail = tail
tail_wrote wrote.DiskFault tail = tail

abbrev pub OwesRun : Wrote → TailValue → Type 0
OwesRun wrote.Run tail = Owes tail
OwesRun wrote.Finished tail = Owes tail
OwesRun wrote.Nothing tail = Unit {0}
OwesRun wrote.DiskFault tail = Unit {0}

-- the path that was taken is legal
abbrev pub IsLegalTook : Planned → Type 0
IsLegalTook (planned.Took path) = path_fault path ≡ None
IsLegalTook planned.Busy = Unit {0}
IsLegalTook planned.Idle = Unit {0}
IsLegalTook planned.DiskFault = Unit {0}
IsLegalTook planned.NoMemory = Unit {0}

-- ---- an entry, or none

-- the pass may make the entry in the state after those of the tail
pub record MayTell (start : State) (pass : PassValue) (tail : TailValue) (entry : Entry) : Type 0 where
  pub may : MayEnter pass tail entry
  pub legal : IsLegal (replay start tail.list) entry

abbrev pub tail_told : TailValue → Option Entry → TailValue
tail_told tail None = tail
tail_told tail (Some entry) = tail_with tail entry

-- the pass made the entry, or none and saw the whole history
abbrev pub Tells : State → ℕ → TailValue → Option Entry → PassValue → PassValue → Type 0
Tells start passes tail None old new = SeesAll start passes tail old new
Tells start passes tail (Some entry) old new = EntersLast start passes tail entry old new

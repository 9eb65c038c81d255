-- Calls of a shard, one behind another, with what they say of its disk.
use Rattle.std.specs.Prelude.{◌≡◌, ℕ, ℤ, List, [], ◌∷◌, ◌++◌, Option, Result, IsErrOf}
use Rattle.outside_io.specs.Frames.{ReadsOnly}
use Rattle.outside_io.specs.declared.disk.Disk.{Ghosts}
use Rattle.carbon_history.specs.declared.entry.Entry.{Entry}
use Rattle.point_cache.specs.declared.put.Put.{Put}
use Rattle.shard_core.specs.Plans.{PlansTo}
use Rattle.shard_core.specs.Puts.{TakesPoint}
use Rattle.shard_core.specs.Shard.{Stays}
use Rattle.shard_core.specs.Steps.{plan_entries, put_entries, write_entries}
use Rattle.shard_core.specs.View.{OnlyPuts, SameShard, inside_of}
use Rattle.shard_core.specs.Work.{StaysInRow}
use Rattle.shard_core.specs.Writes.{OnlyWrites, WritesTo}
use Rattle.shard_core.specs.declared.looked.LookFault.{LookFault}
use Rattle.shard_core.specs.declared.looked.LookFault.TheVariants as look
use Rattle.shard_core.specs.declared.planned.Planned.{Planned}
use Rattle.shard_core.specs.declared.planned.Planned.TheVariants as planned
use Rattle.shard_core.specs.declared.planned.Wrote.{Wrote}
use Rattle.shard_core.specs.declared.shard.Shard.{Shard}

-- a call of a shard, with what it was given and how it ended
pub data Call : Type 0 where
  Puts : List ℕ → ℕ → ℤ → Put → Call
  Plans : ℕ → Planned → Call
  Writes : Wrote → Call
  Reads : Result (List (Option ℤ)) LookFault → Call

-- ---- what each ensures

pub record MadePut {D : Type 0} {d : Ghosts D} (path : List ℕ) (time : ℕ) (value : ℤ) (put : Put) (old new : Shard D d) : Type 0 where
  pub takes : TakesPoint (inside_of old) (inside_of new) path time value put
  pub others : OnlyPuts old new

pub record MadePlan {D : Type 0} {d : Ghosts D} (now : ℕ) (plan : Planned) (old new : Shard D d) : Type 0 where
  pub plans : PlansTo plan (inside_of old) (inside_of new) now
  pub same : SameShard old new
  pub frame : ReadsOnly d old.files.disk new.files.disk (plan ≡ planned.DiskFault)

pub record MadeWrite {D : Type 0} {d : Ghosts D} (wrote : Wrote) (old new : Shard D d) : Type 0 where
  pub writes : WritesTo wrote (inside_of old) (inside_of new)
  pub stays : Stays (inside_of old) (inside_of new)
  pub others : OnlyWrites (inside_of old) (inside_of new)
  pub rows : StaysInRow d old.files.work.log new.files.work.log old.files.disk new.files.disk

pub record MadeRead {D : Type 0} {d : Ghosts D} (answer : Result (List (Option ℤ)) LookFault) (old new : Shard D d) : Type 0 where
  pub same : inside_of new ≡ inside_of old
  pub frame : ReadsOnly d old.files.disk new.files.disk (IsErrOf answer look.DiskFault)

abbrev pub Made : {D : Type 0} {d : Ghosts D} → Call → Shard D d → Shard D d → Type 0
Made (Puts path time value put) old new = MadePut path time value put old new
Made (Plans now plan) old new = MadePlan now plan old new
Made (Writes wrote) old new = MadeWrite wrote old new
Made (Reads answer) old new = MadeRead answer old new

-- the calls were made in this order
abbrev pub MadeAll : {D : Type 0} {d : Ghosts D} → List Call → Shard D d → Shard D d → Type 0
MadeAll {D} {d} [] old new = new ≡ old
MadeAll {D} {d} (call ∷ calls) old new = (between : Shard D d) × (Made call old between × MadeAll calls between new)

-- ---- the entries

-- those that the answer of a call on the shard of a class gives, where a pass made it
abbrev pub entries_of_call : ℕ → ℕ → Call → List Entry
entries_of_call pass class (Puts path time value put) = put_entries pass path time value put
entries_of_call pass class (Plans now plan) = plan_entries pass class now plan
entries_of_call pass class (Writes wrote) = write_entries pass class wrote
entries_of_call pass class (Reads answer) = []

abbrev pub entries_of_calls : ℕ → ℕ → List Call → List Entry
entries_of_calls pass class [] = []
entries_of_calls pass class (call ∷ calls) = entries_of_call pass class call ++ entries_of_calls pass class calls

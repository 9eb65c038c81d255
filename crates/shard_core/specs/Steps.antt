-- Calls of a shard, one behind another, and the entries that their answers give.
use Rattle.std.specs.Prelude.{◌≡◌, ℕ, ℤ, List, [], ◌∷◌, ◌++◌}
use Rattle.carbon_history.specs.declared.entry.Entry.{Entry}
use Rattle.carbon_history.specs.declared.entry.Entry.TheVariants as entry
use Rattle.carbon_history.specs.declared.entry.PutEnd.TheVariants as end
use Rattle.point_cache.specs.declared.put.Put.{Put}
use Rattle.point_cache.specs.declared.put.Put.TheVariants as put
use Rattle.shard_core.specs.Plans.{PlansTo}
use Rattle.shard_core.specs.Puts.{TakesPoint}
use Rattle.shard_core.specs.Shard.{Inside, Stays}
use Rattle.shard_core.specs.Writes.{WritesTo}
use Rattle.shard_core.specs.declared.planned.Planned.{Planned}
use Rattle.shard_core.specs.declared.planned.Planned.TheVariants as planned
use Rattle.shard_core.specs.declared.planned.Wrote.{Wrote}
use Rattle.shard_core.specs.declared.planned.Wrote.TheVariants as wrote

-- a call that may change a shard, with what it was given and how it ended
pub data Step : Type 0 where
  Puts : List ℕ → ℕ → ℤ → Put → Step
  Plans : ℕ → Planned → Step
  Writes : Wrote → Step

-- what such a call ensures of the shard before and after it
abbrev pub Makes : Step → Inside → Inside → Type 0
Makes (Puts path time value ended) old new = TakesPoint old new path time value ended
Makes (Plans now plan) old new = PlansTo plan old new now
Makes (Writes run) old new = WritesTo run old new × Stays old new

-- the calls were made in this order
abbrev pub MakesAll : List Step → Inside → Inside → Type 0
MakesAll [] old new = new ≡ old
MakesAll (step ∷ steps) old new =
    (between : Inside) × (Makes step old between × MakesAll steps between new)

-- ---- the entries

abbrev pub put_entries : ℕ → List ℕ → ℕ → ℤ → Put → List Entry
put_entries pass path time value put.Stored = entry.Put pass path time value end.Stored ∷ []
put_entries pass path time value put.Replaced = entry.Put pass path time value end.Replaced ∷ []
put_entries pass path time value put.Full = entry.Put pass path time value end.Full ∷ []
put_entries pass path time value put.NoMemory = []

abbrev pub plan_entries : ℕ → ℕ → ℕ → Planned → List Entry
plan_entries pass class now (planned.Took path) = entry.Drain pass path now ∷ []
plan_entries pass class now planned.Busy = []
plan_entries pass class now planned.Idle = []
plan_entries pass class now planned.DiskFault = entry.Fault pass class ∷ []
plan_entries pass class now planned.NoMemory = []

abbrev pub write_entries : ℕ → ℕ → Wrote → List Entry
write_entries pass class wrote.Run = []
write_entries pass class wrote.Finished = []
write_entries pass class wrote.Nothing = []
write_entries pass class wrote.DiskFault = entry.Fault pass class ∷ []

-- those that the answer of a call on the shard of a class gives, where a pass made it
abbrev pub entries_of : ℕ → ℕ → Step → List Entry
entries_of pass class (Puts path time value ended) = put_entries pass path time value ended
entries_of pass class (Plans now plan) = plan_entries pass class now plan
entries_of pass class (Writes run) = write_entries pass class run

-- the same of all calls, in order
abbrev pub entries_of_all : ℕ → ℕ → List Step → List Entry
entries_of_all pass class [] = []
entries_of_all pass class (step ∷ steps) =
    entries_of pass class step ++ entries_of_all pass class steps

-- What the answers of the calls of a store tell.
use Rattle.std.specs.Prelude.{◌≡◌, ◌≢◌, ◌↔◌, ◌⊎◌, ◌<◌, ℕ, ℤ, List, [], ◌∷◌, ◌++◌, length, Option, Some, None, IfSome, IsSomeAnd}
use Rattle.carbon_history.specs.Entries.{listed}
use Rattle.carbon_history.specs.declared.entry.Entry.{Entry}
use Rattle.carbon_history.specs.declared.entry.Entry.TheVariants as entry
use Rattle.carbon_history.specs.declared.entry.PutEnd.TheVariants as end
use Rattle.metric_path.specs.Class.{class_of}
use Rattle.point_cache.specs.declared.put.Put.{Put}
use Rattle.point_cache.specs.declared.put.Put.TheVariants as put
use Rattle.archive_update.specs.Batch.{HaveNoHome}
use Rattle.carbon_model.specs.State.{State, picked, points_in}
use Rattle.carbon_model.specs.Replay.{IsLegal, replay}
use Rattle.shard_core.specs.declared.planned.Planned.{Planned}
use Rattle.shard_core.specs.declared.planned.Planned.TheVariants as planned
use Rattle.shard_core.specs.declared.planned.Wrote.{Wrote}
use Rattle.shard_core.specs.declared.planned.Wrote.TheVariants as wrote
use Rattle.shared_history.specs.Parts.{PassValue}
use Rattle.shared_store.specs.declared.step.Step.{Step}
use Rattle.shared_store.specs.declared.step.Step.TheVariants as step
use Rattle.shared_store.specs.Passes.{Enters, IsSettled, IsUnderWay, LooksAgain, runs_in, settled_in}

-- the entry of a put, with its outcome, unless there was no memory
abbrev pub put_entry : ℕ → List ℕ → ℕ → ℤ → Put → Option Entry
put_entry pass path time value put.Stored = Some (entry.Put pass path time value end.Stored)
put_entry pass path time value put.Replaced = Some (entry.Put pass path time value end.Replaced)
put_entry pass path time value put.Full = Some (entry.Put pass path time value end.Full)
put_entry pass path time value put.NoMemory = None

-- the entry of a plan in a class, where there is one
abbrev pub plan_entry : ℕ → ℕ → ℕ → Planned → Option Entry
plan_entry pass class now (planned.Took path) = Some (entry.Drain pass path now)
plan_entry pass class now planned.Busy = None
plan_entry pass class now planned.Idle = None
plan_entry pass class now planned.DiskFault = Some (entry.Fault pass class)
plan_entry pass class now planned.NoMemory = None

-- the entry of the write of a run in a class, where there is one
abbrev pub write_entry : ℕ → ℕ → Wrote → Option Entry
write_entry pass class wrote.Run = None
write_entry pass class wrote.Finished = None
write_entry pass class wrote.Nothing = None
write_entry pass class wrote.DiskFault = Some (entry.Fault pass class)

-- want of memory comes only where the point would have been stored, after all that the pass sees
abbrev pub AfterPut : State → List ℕ → ℕ → ℤ → Put → PassValue → Type 0
AfterPut start path time value put.Stored new = Unit {0}
AfterPut start path time value put.Replaced new = Unit {0}
AfterPut start path time value put.Full new = Unit {0}
AfterPut start path time value put.NoMemory new = IsLegal (replay start new.seen) (entry.Put new.number path time value end.Stored)

-- ---- drains

-- a drain of the metric has nothing to write: something is kept of it in version 2, and each of its pending points is older than all that its archives reach back
abbrev pub NeedsNoWrite : State → List ℕ → ℕ → Type 0
NeedsNoWrite s path now =
    IsSomeAnd (s.kept path) (λ kept. (kept.version ≡ 2) × HaveNoHome kept.layout.archives now (points_in s path))

-- The metric of the class, of which something was pending, was drained as the last entry that the pass sees, and fewer are pending since. The drain
-- is settled at once exactly where it has nothing to write.
pub record TookMetric (start : State) (class now : ℕ) (path : List ℕ) (new : PassValue) : Type 0 where
  pub here : class_of path ≡ class
  pub before : List Entry
  pub last : new.seen ≡ before ++ entry.Drain new.number path now ∷ []
  pub some : (replay start before).pending class ≢ []
  pub either : IsSettled class new ⊎ IsUnderWay class new
  pub nothing : IsSettled class new ↔ NeedsNoWrite (replay start before) path now
  pub fewer : length ((replay start new.seen).pending class) < length ((replay start before).pending class)

-- The disk failed, as the last entry that the pass sees, when something of the class was pending and no drain under way.
pub record FailedPlan (start : State) (class : ℕ) (new : PassValue) : Type 0 where
  pub settled : IsSettled class new
  pub before : List Entry
  pub last : new.seen ≡ before ++ entry.Fault new.number class ∷ []
  pub some : (replay start before).pending class ≢ []

-- Nothing of the class is pending or under way in all that the pass sees, which it saw in the call.
pub record WasIdle (start : State) (class : ℕ) (old new : PassValue) : Type 0 where
  pub settled : IsSettled class new
  pub none : (replay start new.seen).pending class ≡ []
  pub seen : old.sights < new.sights

-- what a plan's answer tells
abbrev pub AfterPlan : State → ℕ → ℕ → Planned → PassValue → PassValue → Type 0
AfterPlan start class now (planned.Took path) old new = TookMetric start class now path new
AfterPlan start class now planned.Busy old new = IsUnderWay class new
AfterPlan start class now planned.Idle old new = WasIdle start class old new
AfterPlan start class now planned.DiskFault old new = FailedPlan start class new
AfterPlan start class now planned.NoMemory old new = IsSettled class new

-- a plan, with its answer: its own entry, and what the answer tells
pub record PlansAs (start : State) (passes class now : ℕ) (plan : Planned) (old new : PassValue) : Type 0 where
  pub enters : Enters start passes (listed (plan_entry old.number class now plan)) old new
  pub after : AfterPlan start class now plan old new
  pub looks : LooksAgain class old new

-- the last run of a drain was written: of runs and of settled drains there are more than the pass had seen
pub record FinishedDrain (class : ℕ) (old new : PassValue) : Type 0 where
  pub runs : runs_in class old < runs_in class new
  pub settled : settled_in class old < settled_in class new

-- what the answer of the write of a run tells
abbrev pub AfterWrite : ℕ → Wrote → PassValue → PassValue → Type 0
AfterWrite class wrote.Run old new = IsUnderWay class new × (runs_in class old < runs_in class new)
AfterWrite class wrote.Finished old new = IsSettled class new × FinishedDrain class old new
AfterWrite class wrote.Nothing old new = IsSettled class new
AfterWrite class wrote.DiskFault old new = IsUnderWay class new

-- The metric of the class that goes next has points, and nothing is kept of it in version 2: its drain
-- makes a ring file, a new one or one in place of a file of version 1.
pub record MakesFileNext (s : State) (class : ℕ) : Type 0 where
  pub path : List ℕ
  pub here : class_of path ≡ class
  pub next : picked s class ≡ Some path
  pub some : points_in s path ≢ []
  pub anew : IfSome (s.kept path) (λ kept. kept.version ≡ 1)

-- ---- one step of draining

-- a metric of the class was taken
pub record TookOne (start : State) (passes class now : ℕ) (old new : PassValue) : Type 0 where
  pub path : List ℕ
  pub enters : Enters start passes (entry.Drain old.number path now ∷ []) old new
  pub took : TookMetric start class now path new

-- what each answer of a step tells
abbrev pub StepsTo : State → ℕ → ℕ → ℕ → Step → PassValue → PassValue → Type 0
StepsTo start passes class now step.Took old new = TookOne start passes class now old new
StepsTo start passes class now step.Wrote old new = Enters start passes [] old new × AfterWrite class wrote.Run old new
StepsTo start passes class now step.Finished old new = Enters start passes [] old new × AfterWrite class wrote.Finished old new
StepsTo start passes class now step.Idle old new = Enters start passes [] old new × WasIdle start class old new
StepsTo start passes class now step.DiskFault old new =
    Enters start passes (entry.Fault old.number class ∷ []) old new × (FailedPlan start class new ⊎ IsUnderWay class new)
StepsTo start passes class now step.NoMemory old new = Enters start passes [] old new × IsSettled class new

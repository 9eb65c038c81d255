-- Rounds over the classes, in order, until one has something to do.
use Rattle.std.specs.Prelude.{◌≡◌, ◌⊎◌, ◌<◌, ◌≤◌, ◌*◌, ℕ, List, [], ◌∷◌}
use Rattle.carbon_history.specs.declared.entry.Entry.{Entry}
use Rattle.carbon_history.specs.declared.entry.Entry.TheVariants as entry
use Rattle.carbon_history.specs.Entries.{about_class, drains}
use Rattle.carbon_model.specs.State.{State}
use Rattle.carbon_model.specs.Replay.{replay}
use Rattle.shared_history.specs.Parts.{PassValue}
use Rattle.shared_store.specs.Passes.{IsSettled, IsUnderWay, planned_in, runs_in, settled_in}
use Rattle.shared_store.specs.Steps.{FailedPlan, TookMetric}
use Rattle.carbon_script.specs.Alone.{Adds}
use Rattle.carbon_script.specs.declared.round.Begun.{Begun}
use Rattle.carbon_script.specs.declared.round.Begun.TheVariants as begun
use Rattle.carbon_script.specs.declared.round.NextRun.{NextRun}
use Rattle.carbon_script.specs.declared.round.NextRun.TheVariants as run

-- the last look at a class shows all drains of it that these entries have
abbrev pub ShowsAll : List Entry → ℕ → PassValue → Type 0
ShowsAll seen class pass = planned_in class pass ≡ drains (about_class class seen)

-- ---- plans

-- a class began no drain, in the state after these entries: one is under way, or nothing is pending
abbrev pub IsPassedOver : State → List Entry → ℕ → PassValue → Type 0
IsPassedOver start seen class pass =
    (ShowsAll seen class pass × IsUnderWay class pass) ⊎ ((replay start seen).pending class ≡ [])

-- the first classes, so many, began none
abbrev pub ArePassedOver : State → List Entry → ℕ → PassValue → Type 0
ArePassedOver start seen count pass = (k : ℕ) → k < count → IsPassedOver start seen k pass

-- the first class that could began the drain of this metric
pub record BeginsDrain (start : State) (now : ℕ) (path : List ℕ) (old new : PassValue) : Type 0 where
  pub class : ℕ
  pub within : class < 16
  pub adds : Adds start (entry.Drain 0 path now ∷ []) old new
  pub over : ArePassedOver start old.seen class new
  pub took : TookMetric start class now path new
  pub shows : ShowsAll new.seen class new

-- or its disk failed
pub record BeginsFault (start : State) (class : ℕ) (old new : PassValue) : Type 0 where
  pub within : class < 16
  pub adds : Adds start (entry.Fault 0 class ∷ []) old new
  pub over : ArePassedOver start old.seen class new
  pub failed : FailedPlan start class new
  pub shows : ShowsAll new.seen class new

-- or no class could
pub record BeginsNone (start : State) (old new : PassValue) : Type 0 where
  pub adds : Adds start [] old new
  pub over : ArePassedOver start old.seen 16 new

-- what a round of plans tells
abbrev pub Begins : State → ℕ → Begun → PassValue → PassValue → Type 0
Begins start now (begun.Metric path) old new = BeginsDrain start now path old new
Begins start now (begun.DiskFault class) old new = BeginsFault start class old new
Begins start now begun.Nothing old new = BeginsNone start old new
Begins start now begun.NoMemory old new = Adds start [] old new

-- ---- runs

-- all drains of a class are written whole
pub record IsWritten (seen : List Entry) (class : ℕ) (pass : PassValue) : Type 0 where
  pub shows : ShowsAll seen class pass
  pub settled : IsSettled class pass

-- those of the first classes, so many, are
abbrev pub AreWritten : List Entry → ℕ → PassValue → Type 0
AreWritten seen count pass = (k : ℕ) → k < count → IsWritten seen k pass

-- A run of the first class that has one to be written was written, and this is known of the class then. Of its drains not all were known to be
-- settled before.
pub record WritesOne (start : State) (known : ℕ → PassValue → Type 0) (old new : PassValue) : Type 0 where
  pub class : ℕ
  pub within : class < 16
  pub adds : Adds start [] old new
  pub below : AreWritten old.seen class new
  pub shows : ShowsAll old.seen class new
  pub owed : settled_in class old < planned_in class new
  pub rose : runs_in class old < runs_in class new
  pub most : runs_in class new ≤ 5000000 * planned_in class new
  pub ended : known class new

-- or its disk failed
pub record WritesFault (start : State) (class : ℕ) (old new : PassValue) : Type 0 where
  pub within : class < 16
  pub adds : Adds start (entry.Fault 0 class ∷ []) old new
  pub below : AreWritten old.seen class new
  pub shows : ShowsAll new.seen class new
  pub under_way : IsUnderWay class new

-- or no class has one
pub record WritesNone (start : State) (old new : PassValue) : Type 0 where
  pub adds : Adds start [] old new
  pub below : AreWritten old.seen 16 new

-- what a round of writes tells
abbrev pub Writes : State → NextRun → PassValue → PassValue → Type 0
Writes start run.Written old new = WritesOne start IsUnderWay old new
Writes start run.Finished old new = WritesOne start IsSettled old new
Writes start (run.DiskFault class) old new = WritesFault start class old new
Writes start run.Nothing old new = WritesNone start old new

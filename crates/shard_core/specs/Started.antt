-- A shard that started.
use Rattle.std.specs.Prelude.{◌≡◌, ◌≤◌, ℕ, Bool, true, [], List, Option, None, Some, option_map, slice_get}
use Rattle.outside_io.specs.Image.{Image, WhereKnown}
use Rattle.outside_io.specs.declared.disk.Disk.{Ghosts}
use Rattle.schema_rules.specs.LayoutBy.{layout_by}
use Rattle.carbon_model.specs.RingFiles.{IsOfClass, Settings}
use Rattle.carbon_model.specs.State.{Kept, State, form_of}
use Rattle.shard_core.specs.Opened.{IsOpened, IsOpening, MakesLog, Opens}
use Rattle.shard_core.specs.Shard.{Holds}
use Rattle.shard_core.specs.StartCrashes.{StartCrashes}
use Rattle.shard_core.specs.Table.{Table, kept_form}
use Rattle.shard_core.specs.View.{inside_of}
use Rattle.shard_core.specs.Work.{no_work}
use Rattle.shard_core.specs.declared.shard.Shard.{Shard}

-- the shard of a class started from this disk, with what is fixed for the run, and its drains go
-- through the log where that is said; and what a crash then leaves
pub record StartedFrom {D : Type 0} {d : Ghosts D} (class : ℕ) (settings : Settings) (redo : Bool) (disk : D)
    (shard : Shard D d) : Type 0 where
  pub here : shard.desk.class ≡ class
  pub rules : (path : List ℕ) → layout_by shard.desk.rules path ≡ settings.rules path
  pub nothing : shard.desk.cache ≡ record { limit = settings.limit; metrics = []; places = [] }
  pub waiting : shard.desk.picker
      ≡ record { strategy = settings.strategy; queue = []; arrived = []; settled = None }
  pub empty : shard.files.work ≡ no_work redo
  pub opening : WhereKnown (d.image disk) (d.image shard.files.disk) IsOpening
  pub makes : WhereKnown (d.image disk) (d.image shard.files.disk) (MakesLog redo)
  pub opens : Opens class (d.image shard.files.disk) shard.desk.table
  pub opened : IsOpened class shard.desk.table
  pub later : d.faults disk ≤ d.faults shard.files.disk
  pub crash : StartCrashes d redo disk shard.files.disk true

-- Where a disk does not tell its image, what is kept of the paths of its class has the versions and
-- the layouts that the shard read of their files. Where it does, this follows.
abbrev pub KeepsLaidOut : ℕ → Option Image → Table → (List ℕ → Option Kept) → Type 0
KeepsLaidOut class None table kept =
    (path : List ℕ) → IsOfClass class path
    → kept_form table path ≡ option_map form_of (kept path)
KeepsLaidOut class (Some image) table kept = Unit {0}

-- The shard of this class stands for the part that the class has of a state, and writes no drain.
-- So many calls of its disk have failed.
pub record IsReadyShard {D : Type 0} {d : Ghosts D} (told : ℕ → Option Image) (start : State)
    (earlier : ℕ → ℕ) (place : ℕ) (shard : Shard D d) : Type 0 where
  pub class : shard.desk.class ≡ place
  pub empty : shard.files.work.shelf ≡ None
  pub idle : shard.files.work.steps ≡ 0
  pub holds : Holds (told place) (inside_of shard) start
  pub faults : earlier place ≡ d.faults shard.files.disk

-- each shard does, at its place
abbrev pub AreReadyShards : {D : Type 0} {d : Ghosts D} → (ℕ → Option Image) → State → (ℕ → ℕ)
    → List (Shard D d) → Type 0
AreReadyShards {D} {d} told start earlier shards =
    (k : ℕ) (shard : Shard D d) → slice_get shards k ≡ Some shard
    → IsReadyShard told start earlier k shard

-- What the service of a net comes to.
use Rattle.std.specs.Prelude.{◌≡◌, ◌⊎◌, ◌<◌, ◌≤◌, ◌+◌, ◌^◌, ℕ, false, true, All, List, [], ◌∷◌, ◌++◌, length, Option, Some, IfSome, slice_get}
use Rattle.outside_io.specs.Image.{Image, WhereKnown}
use Rattle.outside_io.specs.Faults.{Rose}
use Rattle.outside_io.specs.declared.disk.Disk.{Ghosts}
use Rattle.carbon_history.specs.declared.entry.Entry.{Entry}
use Rattle.carbon_history.specs.declared.entry.Entry.TheVariants.{Fault}
use Rattle.carbon_history.specs.Entries.{NamesPasses, is_drain, of_pass}
use Rattle.carbon_model.specs.State.{State}
use Rattle.carbon_model.specs.RingFiles.{Stands}
use Rattle.carbon_model.specs.Replay.{IsLegalHistory, replay}
use Rattle.redo_log.specs.Recovery.{is_open}
use Rattle.redo_log.specs.Steps.{gate_name}
use Rattle.shard_set.specs.Disks.{disk_faults}
use Rattle.shared_store.specs.Closes.{EndsAs}
use Rattle.shared_store.specs.declared.drain_end.DrainEnd.{DrainEnd}
use Rattle.shared_store.specs.declared.drain_end.DrainEnd.TheVariants.{Done, DiskFault, Spent, NoMemory}
use Rattle.carbon_serve.specs.Courses.{CourseOf, LastCourse, Staff, TellsSpent, WorkersHaveRoom, origin_by}
use Rattle.carbon_serve.specs.Workers.{HasMoment}

-- ---- what is drained

-- each disk that tells its image alone stands for what a state keeps of its class
abbrev pub DisksStand : {D : Type 0} → (D → Option Image) → (ℕ → Option Image) → List D → State → Type 0
DisksStand image told disks s = (k : ℕ) → IfSome (slice_get disks k) (λ disk. WhereKnown (told k) (image disk) (λ opening now. Stands opening now s.kept k))

-- no disk that tells its image has an open gate
abbrev pub AreShut : {D : Type 0} → (D → Option Image) → List D → Type 0
AreShut image disks =
    (k : ℕ) → IfSome (slice_get disks k) (λ disk. IfSome (image disk) (λ now. is_open (now gate_name) ≡ false))

-- nothing is pending, the disks stand for all that is kept, and no gate is open
pub record IsDrained {D : Type 0} (image : D → Option Image) (told : ℕ → Option Image) (disks : List D) (s : State) : Type 0 where
  pub none : (class : ℕ) → class < 16 → s.pending class ≡ []
  pub stand : DisksStand image told disks s
  pub shut : AreShut image disks

-- ---- the end

-- each of the passes has room for what a call enters
abbrev pub AllHaveRoom : ℕ → List Entry → Type 0
AllHaveRoom passes history = (pass : ℕ) → pass < passes → length (of_pass pass history) + 4 ≤ 2 ^ 48

-- the last one has not
pub record LastSpent (passes : ℕ) (history : List Entry) : Type 0 where
  pub pass : ℕ
  pub is : pass + 1 ≡ passes
  pub spent : 2 ^ 48 < length (of_pass pass history) + 4

-- the last pass made nothing: there was no drain at the end
pub record EndsUndrained (passes : ℕ) (history : List Entry) : Type 0 where
  pub pass : ℕ
  pub is : pass + 1 ≡ passes
  pub none : of_pass pass history ≡ []

-- the last entry is that the disk of a class failed, told by the last pass; the disk's count of
-- failed calls rose
pub record EndsByFault {D : Type 0} (d : Ghosts D) (earlier : ℕ → ℕ) (passes class : ℕ) (history : List Entry) (disks : List D) : Type 0 where
  pub pass : ℕ
  pub is : pass + 1 ≡ passes
  pub before : List Entry
  pub last : history ≡ before ++ Fault pass class ∷ []
  pub cause : Rose (earlier class) (disk_faults d.faults disks class)

-- the last pass, which made the drain at the end alone, told no fault: all its entries are drains
pub record EndsShort (passes : ℕ) (history : List Entry) : Type 0 where
  pub pass : ℕ
  pub is : pass + 1 ≡ passes
  pub drains : All (λ entry. is_drain entry ≡ true) (of_pass pass history)

-- A pass was spent: that of a worker, and then there was no drain at the end; or the last one in
-- that drain, in which no disk failed, where every worker has room left.
abbrev pub EndsSpent : ℕ → List Entry → Type 0
EndsSpent passes history =
    (TellsSpent passes history true × EndsUndrained passes history)
    ⊎ (WorkersHaveRoom passes history × (EndsShort passes history × LastSpent passes history))

-- What stands at each end. All is drained, and every pass has room left; or the disk of a class
-- failed in the drain at the end, which the last pass made where every worker has room left; or a
-- pass was spent; or memory ran out in that drain, while no disk failed in it and every pass has
-- room left.
abbrev pub EndsServed : {D : Type 0} → Ghosts D → (ℕ → Option Image) → State → (ℕ → ℕ) → ℕ → DrainEnd → List Entry → List D → Type 0
EndsServed d told start earlier passes (Done count) history disks =
    IsDrained d.image told disks (replay start history) × AllHaveRoom passes history
EndsServed d told start earlier passes (DiskFault class) history disks =
    EndsByFault d earlier passes class history disks × WorkersHaveRoom passes history
EndsServed d told start earlier passes Spent history disks = EndsSpent passes history
EndsServed d told start earlier passes NoMemory history disks =
    EndsShort passes history × AllHaveRoom passes history

-- What the service of a net came to over a store that began in a state, over disks that had told
-- these images and had failed so often, with the passes of a staff: those of the workers and last
-- that of the crew itself. The history is legal, names these passes alone, and each moment in it is
-- one of the clock's. What each pass did is told link by link, and the history has that and nothing
-- else. Each disk stands for what is kept of its class, under a patch perhaps of a drain that was
-- not written whole.
pub record Serves {D L : Type 0} (d : Ghosts D) (staff : Staff L) (told : ℕ → Option Image) (start : State) (earlier : ℕ → ℕ) (end : DrainEnd) (history : List Entry) (disks : List D) : Type 0 where
  pub ends : EndsServed d told start earlier staff.passes end history disks
  pub legal : IsLegalHistory start history
  pub names : NamesPasses staff.passes history
  pub timed : All (HasMoment staff.moments) history
  pub courses : (number : ℕ) → number + 1 < staff.passes → CourseOf staff.links (origin_by staff told start) staff.duties number history
  pub last : LastCourse (origin_by staff told start) end history
  pub stand : (k : ℕ) (disk : D) → slice_get disks k ≡ Some disk → EndsAs d told start earlier [] history k disk
  pub sixteen : length disks ≡ 16

-- What the end of a store tells.
use Rattle.std.specs.Prelude.{◌≡◌, ◌≢◌, ◌<◌, ◌≤◌, ◌+◌, ℕ, false, List, Option, Some, None, IfSome, get_or, length, slice_get, count_by}
use Rattle.atomic_table.specs.Seated.{TableId}
use Rattle.outside_io.specs.Image.{Image, WhereKnown}
use Rattle.outside_io.specs.declared.disk.Disk.{Ghosts}
use Rattle.ring_format.specs.Patch.{PatchValue}
use Rattle.carbon_history.specs.declared.entry.Entry.{Entry}
use Rattle.carbon_history.specs.Entries.{NamesPasses, about_class, drains}
use Rattle.carbon_model.specs.RingFiles.{StandsUnder}
use Rattle.carbon_model.specs.State.{State}
use Rattle.carbon_model.specs.Replay.{IsLegalHistory, replay}
use Rattle.redo_log.specs.Recovery.{is_open}
use Rattle.redo_log.specs.Steps.{gate_name}
use Rattle.shard_core.specs.Shard.{Inside}
use Rattle.shared_history.specs.Parts.{AllSeen, PassValue, TailValue}
use Rattle.shared_history.specs.Views.{look_at}
use Rattle.shared_store.specs.declared.close.Closed.{Closed}
use Rattle.shared_store.specs.Desks.{KeepsClass, LastDrains}
use Rattle.shared_store.specs.Passes.{settled_in}
use Rattle.shared_store.specs.Tallies.{capped, is_fault, tally_of}

-- some of these passes has seen all drains of the class settled that the history has
pub record HasSettled (class : ℕ) (history : List Entry) (passes : List PassValue) : Type 0 where
  pub place : ℕ
  pub pass : PassValue
  pub there : slice_get passes place ≡ Some pass
  pub all : drains (about_class class history) ≤ settled_in class pass

-- The disk of a class stands for what the history keeps of the class, where it tells its image: under a patch, perhaps, of a drain that was not
-- written whole, the last of the class, and under none where a pass saw all drains settled; its gate is not open then. Its count of faults is no less
-- than that of the faults told of it.
pub record EndsAs {D : Type 0} (d : Ghosts D) (told : ℕ → Option Image) (start : State) (earlier : ℕ → ℕ) (passes : List PassValue) (history : List Entry) (class : ℕ) (disk : D) : Type 0 where
  pub patch : Option PatchValue
  pub stands : WhereKnown (told class) (d.image disk) (λ opening now. StandsUnder opening now patch (replay start history).kept class)
  pub last : IfSome patch (λ p. LastDrains p.path (about_class class history))
  pub whole : HasSettled class history passes → patch ≡ None
  pub shut : patch ≡ None → IfSome (d.image disk) (λ now. is_open (now gate_name) ≡ false)
  pub faults : capped (earlier class + count_by is_fault (about_class class history)) ≤ d.faults disk

-- The history is legal from the opening state, names the passes that were made alone, and has all that these had seen and done; its entries are
-- counted; and each disk, in order of class, ends as the history says.
pub record Closes {D : Type 0} (d : Ghosts D) (made : ℕ) (told : ℕ → Option Image) (start : State) (earlier : ℕ → ℕ) (passes : List PassValue) (closed : Closed D) : Type 0 where
  pub legal : IsLegalHistory start closed.history
  pub names : NamesPasses made closed.history
  pub seen : AllSeen closed.history passes
  pub counted : closed.tally ≡ tally_of closed.history
  pub sixteen : length closed.disks.items ≡ 16
  pub disks : (k : ℕ) (disk : D) → slice_get closed.disks.items k ≡ Some disk → EndsAs d told start earlier passes closed.history k disk

-- ---- inside a close

-- a pass looked at the class of a tail: its look before was no more than the state of the class
pub record LooksOnce (tail : TailValue) (old new : PassValue) : Type 0 where
  pub table : new.table ≡ old.table
  pub number : new.number ≡ old.number
  pub seen : new.seen ≡ old.seen
  pub others : (other : ℕ) → other ≢ tail.class → look_at other new.looks ≡ look_at other old.looks
  pub behind : settled_in tail.class old ≤ tail.settled

-- each of these passes did
pub record AllLook (tail : TailValue) (old new : List PassValue) : Type 0 where
  pub count : length new ≡ length old
  pub each : (k : ℕ) → k < length old → (d : PassValue) → LooksOnce tail (get_or old k d) (get_or new k d)

-- what the lock of a class kept at the end
pub record EndsClass {D : Type 0} (d : Ghosts D) (table : TableId) (told : ℕ → Option Image) (start : State) (earlier : ℕ → ℕ) (class : ℕ) (disk : D) (tail : TailValue) : Type 0 where
  pub shard : Inside
  pub here : shard.class ≡ class
  pub known : shard.known ≡ d.image disk
  pub shut : shard.shelf ≡ None → IfSome shard.known (λ now. is_open (now gate_name) ≡ false)
  pub keeps : KeepsClass table told start earlier shard (d.faults disk) tail

-- a pass that looked at the first classes, so many, and is else what it was
pub record LookedBelow (count : ℕ) (old new : PassValue) : Type 0 where
  pub table : new.table ≡ old.table
  pub number : new.number ≡ old.number
  pub seen : new.seen ≡ old.seen
  pub others : (other : ℕ) → count ≤ other → look_at other new.looks ≡ look_at other old.looks

-- the first classes, so many, ended: each pass had seen no more of their drains settled than were
pub record EndsBelow {D : Type 0} (d : Ghosts D) (table : TableId) (told : ℕ → Option Image) (start : State) (earlier : ℕ → ℕ) (count : ℕ) (disks : List D) (tails : List TailValue) (old new : List PassValue) : Type 0 where
  pub disk_count : length disks ≡ count
  pub tail_count : length tails ≡ count
  pub pass_count : length new ≡ length old
  pub classes : (k : ℕ) → k < count → (disk : D) (tail : TailValue) → EndsClass d table told start earlier k (get_or disks k disk) (get_or tails k tail)
  pub behind : (k : ℕ) → k < count → (i : ℕ) → i < length old → (tail : TailValue) (pass : PassValue)
      → settled_in k (get_or old i pass) ≤ (get_or tails k tail).settled
  pub passes : (i : ℕ) → i < length old → (pass : PassValue) → LookedBelow count (get_or old i pass) (get_or new i pass)

-- What the lock of a class keeps.
use Rattle.std.specs.Prelude.{◌≡◌, ◌↔◌, ◌<◌, ◌≤◌, ◌+◌, ◌*◌, ℕ, List, ◌∷◌, ◌++◌, Option, None, IfSome, count_by}
use Rattle.atomic_table.specs.Seated.{TableId}
use Rattle.outside_io.specs.Image.{Image}
use Rattle.carbon_history.specs.declared.entry.Entry.{Entry}
use Rattle.carbon_history.specs.declared.entry.Entry.TheVariants.{Drain}
use Rattle.carbon_history.specs.Entries.{drains}
use Rattle.carbon_model.specs.State.{State}
use Rattle.carbon_model.specs.Replay.{replay}
use Rattle.shard_core.specs.Shard.{Holds, Inside}
use Rattle.shared_history.specs.Parts.{TailValue}
use Rattle.shared_history.specs.Rule.{OneOwed}
use Rattle.shared_store.specs.Tallies.{capped, is_fault}

-- the last drain of these entries was of this metric
pub record LastDrains (path : List ℕ) (entries : List Entry) : Type 0 where
  pub before : List Entry
  pub pass : ℕ
  pub now : ℕ
  pub since : List Entry
  pub is : entries ≡ before ++ Drain pass path now ∷ since
  pub last : drains since ≡ 0

-- What the lock of a class keeps: its shard stands for the class's part of the state after its entries; no drain is being written exactly where
-- all of them are settled, and all but one are where one is, which is the last; the steps that were taken and those that may come are at most
-- 5,000,000 for each drain; and of its entries no more are faults than its disk counted since the start.
pub record KeepsClass (table : TableId) (told : ℕ → Option Image) (start : State) (earlier : ℕ → ℕ) (shard : Inside) (failed : ℕ) (tail : TailValue) : Type 0 where
  pub same : tail.table ≡ table
  pub class : tail.class ≡ shard.class
  pub within : shard.class < 16
  pub holds : Holds (told shard.class) shard (replay start tail.list)
  pub settled : (shard.shelf ≡ None) ↔ (drains tail.list ≡ tail.settled)
  pub owed : OneOwed tail.settled tail.list
  pub last : IfSome shard.shelf (λ drain. LastDrains drain.patch.path tail.list)
  pub runs : tail.runs + shard.steps ≤ 5000000 * drains tail.list
  pub faults : capped (earlier shard.class + count_by is_fault tail.list) ≤ failed

-- what contracts see of a desk: its class, and the entries about it
pub record DeskValue : Type 0 where
  pub class : ℕ
  pub list : List Entry

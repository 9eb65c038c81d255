-- What the lock of the order keeps.
use Rattle.std.specs.Prelude.{◌≡◌, ℕ}
use Rattle.atomic_table.specs.Seated.{TableId}
use Rattle.carbon_model.specs.State.{State}
use Rattle.carbon_model.specs.Replay.{IsLegalHistory}
use Rattle.shared_history.specs.Parts.{OrderValue}
use Rattle.shared_store.specs.declared.tally.Tally.{Tally}
use Rattle.shared_store.specs.Tallies.{tally_of}

-- The history is legal from the opening state, and its entries are counted.
pub record KeepsOrder (table : TableId) (passes : ℕ) (start : State) (order : OrderValue) (tally : Tally) : Type 0 where
  pub same : order.table ≡ table
  pub count : order.passes ≡ passes
  pub legal : IsLegalHistory start order.list
  pub counts : tally ≡ tally_of order.list

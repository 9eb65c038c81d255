-- What a call makes of the one pass of a store.
use Rattle.std.specs.Prelude.{◌≡◌, ◌≤◌, ℕ, Bool, List, ◌++◌, nat_lt}
use Rattle.atomic_table.specs.Seated.{TableId}
use Rattle.carbon_history.specs.declared.entry.Entry.{Entry}
use Rattle.carbon_history.specs.Entries.{NamesPasses, about_class, drains}
use Rattle.carbon_model.specs.State.{State}
use Rattle.carbon_model.specs.Replay.{IsLegalHistory}
use Rattle.shared_history.specs.Parts.{PassValue}
use Rattle.shared_store.specs.Passes.{runs_in, settled_in}

-- The pass is the one of its store, and what it sees is legal.
pub record IsOnly (own : TableId) (start : State) (pass : PassValue) : Type 0 where
  pub table : pass.table ≡ own
  pub number : pass.number ≡ 0
  pub legal : IsLegalHistory start pass.seen
  pub named : NamesPasses 1 pass.seen

-- The one pass of a store made these entries: it sees what it saw and then them, all of it legal. Of no class it knows fewer settled drains or
-- written runs than it did.
pub record Adds (start : State) (entries : List Entry) (old new : PassValue) : Type 0 where
  pub table : new.table ≡ old.table
  pub number : new.number ≡ old.number
  pub seen : new.seen ≡ old.seen ++ entries
  pub legal : IsLegalHistory start new.seen
  pub named : NamesPasses 1 new.seen
  pub settled : (class : ℕ) → settled_in class old ≤ settled_in class new
  pub runs : (class : ℕ) → runs_in class old ≤ runs_in class new

-- A class owes the rest of a drain, for all that the pass knows: of the drains of it that the pass sees not all were settled when it looked last.
abbrev pub debts : PassValue → ℕ → Bool
debts pass class = nat_lt (settled_in class pass) (drains (about_class class pass.seen))

-- What a call does to the pass that makes it.
use Rattle.std.specs.Prelude.{◌≡◌, ◌≢◌, ◌<◌, ◌≤◌, ◌+◌, ◌*◌, ◌^◌, ℕ, List, [], ◌∷◌, ◌++◌, length}
use mathlib.Core.List.{IsPrefix}
use Rattle.carbon_history.specs.declared.entry.Entry.{Entry}
use Rattle.carbon_history.specs.Entries.{NamesPasses, about_class, drains}
use Rattle.shared_history.specs.Parts.{PassValue, TailValue, own_entries}
use Rattle.shared_history.specs.Views.{look_at}
use Rattle.shared_history.specs.declared.view.Look.{Look}
use Rattle.carbon_model.specs.State.{State}
use Rattle.carbon_model.specs.Replay.{IsLegalHistory}

-- every call has room for its entries
abbrev pub HasRoom : PassValue → Type 0
HasRoom pass = length (own_entries pass) + 4 ≤ 2 ^ 48

-- the pass has no room for a call
abbrev pub IsSpent : PassValue → Type 0
IsSpent pass = 2 ^ 48 < length (own_entries pass) + 4

-- The pass made these entries in a call: what it had seen begins what it sees now, which is legal from the opening state, names the passes that
-- were made alone, and has of its own what it had and these, in order.
pub record Enters (start : State) (passes : ℕ) (entries : List Entry) (old new : PassValue) : Type 0 where
  pub table : new.table ≡ old.table
  pub number : new.number ≡ old.number
  pub begins : IsPrefix old.seen new.seen
  pub legal : IsLegalHistory start new.seen
  pub made : NamesPasses passes new.seen
  pub once : own_entries new ≡ own_entries old ++ entries

-- its looks at classes are what they were
pub record SameLooks (old new : PassValue) : Type 0 where
  pub looks : new.looks ≡ old.looks
  pub sights : old.sights ≤ new.sights

-- ---- what a pass knows of a class by its last look

abbrev pub planned_in : ℕ → PassValue → ℕ
planned_in class pass = drains (look_at class pass.looks).list

abbrev pub settled_in : ℕ → PassValue → ℕ
settled_in class pass = (look_at class pass.looks).settled

abbrev pub runs_in : ℕ → PassValue → ℕ
runs_in class pass = (look_at class pass.looks).runs

-- each drain of the class that was begun was written whole; the last one was not
abbrev pub IsSettled : ℕ → PassValue → Type 0
IsSettled class pass = planned_in class pass ≡ settled_in class pass

abbrev pub IsUnderWay : ℕ → PassValue → Type 0
IsUnderWay class pass = planned_in class pass ≡ settled_in class pass + 1

-- The pass looked at a class in the call: it saw all entries about the class that it sees, and how far its drains were written, of which none
-- needs more than 5,000,000 steps. Its looks at other classes are what they were.
pub record LooksAgain (class : ℕ) (old new : PassValue) : Type 0 where
  pub times : (look_at class old.looks).times < (look_at class new.looks).times
  pub list : (look_at class new.looks).list ≡ about_class class new.seen
  pub grows : IsPrefix (look_at class old.looks).list (look_at class new.looks).list
  pub settled : settled_in class old ≤ settled_in class new
  pub runs : runs_in class old ≤ runs_in class new
  pub most : runs_in class new ≤ 5000000 * planned_in class new
  pub others : (other : ℕ) → other ≢ class → look_at other new.looks ≡ look_at other old.looks
  pub sights : old.sights ≤ new.sights

-- a look at a class is no less than an earlier one
pub record IsNoLess (before now : Look) : Type 0 where
  pub list : IsPrefix before.list now.list
  pub settled : before.settled ≤ now.settled
  pub runs : before.runs ≤ now.runs
  pub times : before.times ≤ now.times

-- its looks at all classes are no less than they were
pub record LooksOn (old new : PassValue) : Type 0 where
  pub classes : (class : ℕ) → IsNoLess (look_at class old.looks) (look_at class new.looks)
  pub sights : old.sights ≤ new.sights

-- ---- inside a call

-- The pass made one entry, the last that it sees, where the entries about the class were those that its tail had.
pub record EntersLast (start : State) (passes : ℕ) (tail : TailValue) (entry : Entry) (old new : PassValue) : Type 0 where
  pub enters : Enters start passes (entry ∷ []) old new
  pub before : List Entry
  pub last : new.seen ≡ before ++ entry ∷ []
  pub class : about_class tail.class before ≡ tail.list
  pub same : SameLooks old new

-- The pass made none, and sees the whole history, which of the class has what its tail has.
pub record SeesAll (start : State) (passes : ℕ) (tail : TailValue) (old new : PassValue) : Type 0 where
  pub enters : Enters start passes [] old new
  pub class : about_class tail.class new.seen ≡ tail.list
  pub looks : new.looks ≡ old.looks
  pub sights : old.sights < new.sights

-- What the workers of a server make of the history.
use Rattle.std.specs.Prelude.{◌≡◌, ◌⊎◌, ◌<◌, ℕ, All, List, ◌++◌, length, get_or, Option, Some, None, IfSome}
use mathlib.Core.List.{IsPrefix}
use Rattle.atomic_table.specs.Seated.{TableId}
use Rattle.carbon_history.specs.declared.entry.Entry.{Entry}
use Rattle.carbon_history.specs.declared.entry.Entry.TheVariants.{Put, Drain, Ask, Fault}
use Rattle.carbon_model.specs.State.{State}
use Rattle.carbon_model.specs.Replay.{IsLegalHistory}
use Rattle.shared_history.specs.Parts.{PassValue, own_entries}
use Rattle.shared_store.specs.Passes.{IsSpent}
use Rattle.carbon_serve.specs.declared.workers.Worker.{Worker}

-- The moment at which a metric was drained, or a question was asked, is one of these. The time of a
-- point is none: its line says it.
abbrev pub HasMoment : (ℕ → Type 0) → Entry → Type 0
HasMoment moments (Put pass path time value end) = Unit {0}
HasMoment moments (Drain pass path now) = moments now
HasMoment moments (Ask pass number try now) = moments now
HasMoment moments (Fault pass class) = Unit {0}

-- ---- what work makes of a pass

-- A pass went on in a store: what it had seen begins what it sees now, which is legal if that was,
-- and has of its own what it had and entries more, all of whose moments are some of these.
pub record Works (moments : ℕ → Type 0) (start : State) (old new : PassValue) : Type 0 where
  pub table : new.table ≡ old.table
  pub number : new.number ≡ old.number
  pub begins : IsPrefix old.seen new.seen
  pub legal : IsLegalHistory start old.seen → IsLegalHistory start new.seen
  pub made : List Entry
  pub once : own_entries new ≡ own_entries old ++ made
  pub told : All (HasMoment moments) made

-- the pass of a worker did, and is there again
abbrev pub WorksBy : (ℕ → Type 0) → State → Option PassValue → Option PassValue → Type 0
WorksBy moments start None new = new ≡ None
WorksBy moments start (Some old) None = ⊥
WorksBy moments start (Some old) (Some new) = Works moments start old new

-- the passes of all these workers did
pub record AllWork (moments : ℕ → Type 0) (start : State) (old new : List Worker) : Type 0 where
  pub count : length new ≡ length old
  pub each : (k : ℕ) → k < length old → (d : Worker) → WorksBy moments start (get_or old k d).pass (get_or new k d).pass

-- a worker's pass is of this table
abbrev pub IsReady : TableId → Worker → Type 0
IsReady table worker = IfSome worker.pass (λ pass. pass.table ≡ table)

-- Why a worker serves no more links, by a net that closes or not: because it closes, or because the worker's pass has not the room for another call. No
-- other end of a link is an end of its work.
abbrev pub ServesNoMore : Type 0 → PassValue → Type 0
ServesNoMore closes pass = closes ⊎ IsSpent pass

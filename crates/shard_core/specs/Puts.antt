-- What a put makes of a state.
use Rattle.std.specs.Prelude.{◌≡◌, ℕ, ℤ, List, Option}
use Rattle.outside_io.specs.Image.{Image}
use Rattle.point_cache.specs.declared.put.Put.{Put}
use Rattle.point_cache.specs.declared.put.Put.TheVariants.{Stored, Replaced, Full, NoMemory}
use Rattle.carbon_history.specs.declared.entry.Entry.TheVariants as entry
use Rattle.carbon_history.specs.declared.entry.PutEnd.TheVariants as end
use Rattle.carbon_model.specs.State.{State}
use Rattle.carbon_model.specs.Replay.{IsLegal, after}
use Rattle.shard_core.specs.Halves.{DeskInside, FilesInside, both}
use Rattle.shard_core.specs.Shard.{Holds, Inside, KeepsLayouts}
use Rattle.shard_core.specs.Table.{SaysTheSame}

-- Its end is the one that may come, and the state is that after it, whichever pass made it. Want of
-- memory, which comes only where the point would have been stored, changes nothing.
abbrev pub PutsInto : Put → State → List ℕ → ℕ → ℤ → (State → Type 0) → Type 0
PutsInto Stored s path time value holds =
    (pass : ℕ) → IsLegal s (entry.Put pass path time value end.Stored) × holds (after s (entry.Put pass path time value end.Stored))
PutsInto Replaced s path time value holds =
    (pass : ℕ) → IsLegal s (entry.Put pass path time value end.Replaced) × holds (after s (entry.Put pass path time value end.Replaced))
PutsInto Full s path time value holds =
    (pass : ℕ) → IsLegal s (entry.Put pass path time value end.Full) × holds (after s (entry.Put pass path time value end.Full))
PutsInto NoMemory s path time value holds =
    (pass : ℕ) → IsLegal s (entry.Put pass path time value end.Stored) × holds s

-- the same of a shard, whatever state it stood for
abbrev pub TakesPoint : Inside → Inside → List ℕ → ℕ → ℤ → Put → Type 0
TakesPoint old new path time value put =
    (told : Option Image) (s : State) → Holds told old s → PutsInto put s path time value (Holds told new)

-- the same of a desk, whatever its files are
abbrev pub DeskTakes : DeskInside → DeskInside → List ℕ → ℕ → ℤ → Put → Type 0
DeskTakes old new path time value put =
    (files : FilesInside) → TakesPoint (both old files) (both new files) path time value put

-- Nothing of a desk changed but the pending points and which metrics are known; known ones stay so in
-- their layouts, and of each metric as much is kept as before, and it was drained as often.
pub record OnlyTakes (old new : DeskInside) : Type 0 where
  pub class : new.class ≡ old.class
  pub rules : new.rules ≡ old.rules
  pub picker : new.picker ≡ old.picker
  pub says : SaysTheSame old.table new.table
  pub layouts : (files : FilesInside) → KeepsLayouts (both old files) (both new files)

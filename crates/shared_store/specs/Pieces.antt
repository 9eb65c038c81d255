-- What the puts of a piece of points tell.
use Rattle.std.specs.Prelude.{◌≡◌, ◌<◌, ◌≤◌, ◌+◌, ◌^◌, ℕ, Bool, true, false, List, [], ◌∷◌, length, count_by, map, nat_eq, slice_get, slice_index_or, Option, None, Some, IfSome}
use Rattle.std.specs.List.{list_any}
use Rattle.std.specs.Sync.Mutex.{mutex_guard_value}
use Rattle.std.specs.declared.sync.MutexGuard.{MutexGuard}
use Rattle.carbon_history.specs.declared.entry.Entry.{Entry}
use Rattle.carbon_history.specs.declared.entry.Entry.TheVariants as entry
use Rattle.carbon_history.specs.declared.entry.PutEnd.{PutEnd}
use Rattle.carbon_history.specs.declared.entry.PutEnd.TheVariants as end
use Rattle.metric_path.specs.Class.{class_of}
use Rattle.metric_line.specs.declared.datum.Datum.{Datum}
use Rattle.point_cache.specs.declared.put.Put.{Put}
use Rattle.point_cache.specs.declared.put.Put.TheVariants as put
use Rattle.carbon_model.specs.State.{State}
use Rattle.carbon_model.specs.Replay.{IsLegal, replay}
use Rattle.shared_history.specs.Parts.{PassValue, own_entries}
use Rattle.shared_store.specs.declared.put_counts.PutCounts.{PutCounts}
use Rattle.shared_store.specs.Desks.{DeskValue}
use Rattle.shared_store.specs.Passes.{Enters}
use Rattle.shared_store.specs.Tallies.{is_end}

-- the entry of a put of a point that ended so
abbrev pub put_by : ℕ → Datum → PutEnd → Entry
put_by pass datum ended = entry.Put pass datum.path datum.time datum.value ended

-- the entries of the first points, one for each outcome
abbrev pub puts_of : ℕ → List Datum → List PutEnd → List Entry
puts_of pass points [] = []
puts_of pass [] (ended ∷ others) = []
puts_of pass (datum ∷ points) (ended ∷ others) = put_by pass datum ended ∷ puts_of pass points others

-- how many puts ended how
abbrev pub counts_of : List PutEnd → PutCounts
counts_of ends = record {
  done = length ends;
  stored = count_by (is_end end.Stored) ends;
  replaced = count_by (is_end end.Replaced) ends;
  full = count_by (is_end end.Full) ends;
}

-- The first points were put, in order, each with an entry. Where not all were, there was no memory for the next, which would have been stored after
-- all that the pass sees.
pub record PutsFirst (start : State) (passes : ℕ) (points : List Datum) (counts : PutCounts) (old new : PassValue) : Type 0 where
  pub ends : List PutEnd
  pub few : length ends ≤ length points
  pub enters : Enters start passes (puts_of old.number points ends) old new
  pub counted : counts ≡ counts_of ends
  pub memory : IfSome (slice_get points (length ends)) (λ datum. IsLegal (replay start new.seen) (put_by new.number datum end.Stored))

-- the same, or there was no memory for the classes of the points or for their locks, and none was put
pub record PutsNone (start : State) (passes : ℕ) (counts : PutCounts) (old new : PassValue) : Type 0 where
  pub enters : Enters start passes [] old new
  pub counted : counts ≡ counts_of []

-- every call has room for its entries, and one for each point
abbrev pub HasRoomFor : List Datum → PassValue → Type 0
HasRoomFor points pass = length (own_entries pass) + (length points + 4) ≤ 2 ^ 48

-- ---- inside a call

-- the class of each of the points
abbrev pub classes_in : List Datum → List ℕ
classes_in points = map (λ datum. class_of datum.path) points

-- a class is one of these
abbrev pub is_among : ℕ → List ℕ → Bool
is_among k classes = list_any (nat_eq k) classes

-- the lock of a class is held
abbrev pub IsDesk : ℕ → Option (MutexGuard DeskValue) → Type 0
IsDesk k None = ⊥
IsDesk k (Some desk) = (mutex_guard_value desk).class ≡ k

-- it is held in the place of the class
abbrev pub HoldsClass : ℕ → List (Option (MutexGuard DeskValue)) → Type 0
HoldsClass k desks =
    (d : Option (MutexGuard DeskValue)) → k < length desks → IsDesk k (slice_index_or desks k d)

-- so are the locks of these classes; of the others nothing is said
abbrev pub HoldsClasses : List ℕ → List (Option (MutexGuard DeskValue)) → Type 0
HoldsClasses classes desks =
    (k : ℕ) (d : Option (MutexGuard DeskValue)) → k < length desks → is_among k classes ≡ true
    → IsDesk k (slice_index_or desks k d)

-- what was held still is
abbrev pub KeepsHeld : List (Option (MutexGuard DeskValue)) → List (Option (MutexGuard DeskValue))
    → Type 0
KeepsHeld old new = (k : ℕ) → HoldsClass k old → HoldsClass k new

-- the counts have room for one more
pub record FewCounts (counts : PutCounts) : Type 0 where
  pub done : counts.done < 2 ^ 48
  pub stored : counts.stored ≤ counts.done
  pub replaced : counts.replaced ≤ counts.done
  pub full : counts.full ≤ counts.done

-- one put more
abbrev pub counts_with : PutCounts → PutEnd → PutCounts
counts_with counts end.Stored = record counts { done = counts.done + 1; stored = counts.stored + 1 }
counts_with counts end.Replaced = record counts { done = counts.done + 1; replaced = counts.replaced + 1 }
counts_with counts end.Full = record counts { done = counts.done + 1; full = counts.full + 1 }

-- what a put makes of the counts, and whether there was memory for it
abbrev pub CountsPut : Put → Bool → PutCounts → PutCounts → Type 0
CountsPut put.Stored more old new = (more ≡ true) × (new ≡ counts_with old end.Stored)
CountsPut put.Replaced more old new = (more ≡ true) × (new ≡ counts_with old end.Replaced)
CountsPut put.Full more old new = (more ≡ true) × (new ≡ counts_with old end.Full)
CountsPut put.NoMemory more old new = (more ≡ false) × (new ≡ old)

-- so many points were put
pub record PutsSoFar (start : State) (passes : ℕ) (points : List Datum) (count : ℕ) (counts : PutCounts) (old new : PassValue) : Type 0 where
  pub ends : List PutEnd
  pub many : length ends ≡ count
  pub enters : Enters start passes (puts_of old.number points ends) old new
  pub counted : counts ≡ counts_of ends

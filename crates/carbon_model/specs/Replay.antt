-- Which entries may come in a state, and the state after them.
use Rattle.std.specs.Prelude.{◌≡◌, ℕ, ℤ, zero, suc, ◌<◌, ◌≤◌, ◌==◌, true, false, List, [], ◌∷◌, ◌++◌, Option, Some, None, if◌then◌else◌}
use Rattle.std.specs.Str.{bytes_eq}
use Rattle.std.specs.Map.{remove_entry}
use Rattle.fixed_num.specs.Milli.{IsMilli}
use Rattle.metric_path.specs.Path.{path_fault}
use Rattle.fixed_num.specs.Moment.{is_moment}
use Rattle.carbon_history.specs.declared.entry.Entry.{Entry}
use Rattle.carbon_history.specs.declared.entry.Entry.TheVariants.{Put, Drain, Ask, Fault}
use Rattle.carbon_history.specs.declared.entry.PutEnd.TheVariants.{Stored, Replaced, Full}
use Rattle.metric_path.specs.Class.{class_of}
use Rattle.point_cache.specs.Points.{has_time}
use Rattle.point_cache.specs.Pending.{points_count, with_put}
use Rattle.drain_order.specs.Pick.{queue_after}
use Rattle.archive_update.specs.Batch.{batch}
use Rattle.ring_format.specs.Layout.{LayoutValue}
use Rattle.carbon_model.specs.State.{Kept, State, layout_or, picked, points_in, rings_of, with_pending}

-- a point that may be put: its path is legal, its time a legal moment, and its value a value
pub record IsPoint (path : List ℕ) (time : ℕ) (value : ℤ) : Type 0 where
  pub legal : path_fault path ≡ None
  pub moment : is_moment time ≡ true
  pub fits : IsMilli value

-- A put replaces exactly where the metric has a pending point of its time. Else it finds its class full exactly where as many points of
-- it are pending as may be, and is stored where there are fewer. The metric that is drained is the one that its class picks.
abbrev pub IsLegal : State → Entry → Type 0
IsLegal s (Put pass path time value Stored) =
    IsPoint path time value
    × ((has_time (points_in s path) time ≡ false) × (points_count (s.pending (class_of path)) < s.limit))
IsLegal s (Put pass path time value Replaced) = IsPoint path time value × (has_time (points_in s path) time ≡ true)
IsLegal s (Put pass path time value Full) =
    IsPoint path time value
    × ((has_time (points_in s path) time ≡ false) × (s.limit ≤ points_count (s.pending (class_of path))))
IsLegal s (Drain pass path now) = picked s (class_of path) ≡ Some path
IsLegal s (Ask pass number try now) = Unit {0}
IsLegal s (Fault pass class) = Unit {0}

-- what is kept of a metric, in version 2, once its points are drained into its archives, or into empty
-- ones of the layout that it is given where it had none
abbrev pub kept_after : LayoutValue → Option Kept → ℕ → List (ℕ × ℤ) → Kept
kept_after given kept now points = record {
  version = 2;
  layout = layout_or given kept;
  rings = batch (layout_or given kept) now points (rings_of kept);
}

-- the same of all paths, of which this one is drained
abbrev pub with_drained : (List ℕ → Option Kept) → List ℕ → LayoutValue → ℕ → List (ℕ × ℤ) → List ℕ → Option Kept
with_drained kept path given now points = λ p. if bytes_eq p path then Some (kept_after given (kept path) now points) else kept p

-- the state after the points of a path are drained: none of it are pending, and its archives have the batch of them
abbrev pub drained : State → List ℕ → ℕ → State
drained s path now = record s {
  pending = λ k. if k == class_of path then remove_entry (bytes_eq path) (s.pending k) else s.pending k;
  queue = λ k. if k == class_of path then queue_after s.strategy (s.queue k) (s.pending k) else s.queue k;
  kept = with_drained s.kept path (s.rules path) now (points_in s path);
  drains = λ p. if bytes_eq p path then suc (s.drains p) else s.drains p;
}

-- a put changes the pending points of its path alone; one that found its class full, a question and a fault change nothing
abbrev pub after : State → Entry → State
after s (Put pass path time value Stored) = with_pending s (class_of path) (with_put (s.pending (class_of path)) path time value)
after s (Put pass path time value Replaced) = with_pending s (class_of path) (with_put (s.pending (class_of path)) path time value)
after s (Put pass path time value Full) = s
after s (Drain pass path now) = drained s path now
after s (Ask pass number try now) = s
after s (Fault pass class) = s

-- the state after these entries in order
abbrev pub replay : State → List Entry → State
replay s [] = s
replay s (entry ∷ others) = replay (after s entry) others

-- each entry may come in the state that those before it leave
abbrev pub IsLegalHistory : State → List Entry → Type 0
IsLegalHistory s [] = Unit {0}
IsLegalHistory s (entry ∷ others) = IsLegal s entry × IsLegalHistory (after s entry) others

-- ---- drains of whole classes

-- a drain of a metric of this class at this moment, made by this pass
abbrev pub IsDrainOf : ℕ → ℕ → ℕ → Entry → Type 0
IsDrainOf pass class now (Drain by path at) = (by ≡ pass) × ((class_of path ≡ class) × (at ≡ now))
IsDrainOf pass class now (Put by path time value end) = ⊥
IsDrainOf pass class now (Ask by number try at) = ⊥
IsDrainOf pass class now (Fault by of_class) = ⊥

-- some metrics of a class are drained, each the one that the class picks then
abbrev pub DrainsSome : State → ℕ → ℕ → ℕ → List Entry → Type 0
DrainsSome s pass class now [] = Unit {0}
DrainsSome s pass class now (entry ∷ others) =
    IsDrainOf pass class now entry × (IsLegal s entry × DrainsSome (after s entry) pass class now others)

-- All of them are: after these drains nothing of the class is pending. Each is of the metric that the class picks, so that a sound state
-- has one such list (a law).
pub record DrainsClass (s : State) (pass class now : ℕ) (entries : List Entry) : Type 0 where
  pub drains : DrainsSome s pass class now entries
  pub none_pending : (replay s entries).pending class ≡ []

-- the first classes, so many, are drained in order, each whole
abbrev pub DrainsClasses : State → ℕ → ℕ → ℕ → List Entry → Type 0
DrainsClasses s pass zero now entries = entries ≡ []
DrainsClasses s pass (suc class) now entries =
    (before : List Entry) × (last : List Entry) × ((entries ≡ before ++ last)
    × (DrainsClasses s pass class now before × DrainsClass (replay s before) pass class now last))

-- all classes are
unfoldable pub DrainsAll : State → ℕ → ℕ → List Entry → Type 0
DrainsAll s pass now entries = DrainsClasses s pass 16 now entries

-- the classes below this one are drained whole, and some metrics of this one
abbrev pub DrainsUpTo : State → ℕ → ℕ → ℕ → List Entry → Type 0
DrainsUpTo s pass class now entries =
    (before : List Entry) × (last : List Entry) × ((entries ≡ before ++ last)
    × (DrainsClasses s pass class now before × DrainsSome (replay s before) pass class now last))

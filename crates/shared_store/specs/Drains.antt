-- What the drain of all that is pending tells.
use Rattle.std.specs.Prelude.{◌≡◌, ◌≢◌, ◌⊎◌, ◌<◌, ◌≤◌, ◌+◌, ℕ, Bool, true, false, List, [], ◌∷◌, ◌++◌, length, Result, Ok, Err}
use mathlib.Core.List.{IsPrefix}
use Rattle.carbon_history.specs.declared.entry.Entry.{Entry}
use Rattle.carbon_history.specs.declared.entry.Entry.TheVariants.{Drain, Fault}
use Rattle.carbon_history.specs.Entries.{about_class, drains, of_pass}
use Rattle.metric_path.specs.Class.{class_of}
use Rattle.shared_history.specs.Parts.{PassValue, own_entries}
use Rattle.shared_history.specs.Views.{look_at}
use Rattle.carbon_model.specs.State.{State}
use Rattle.carbon_model.specs.Replay.{DrainsAll, DrainsUpTo, IsDrainOf, replay}
use Rattle.shared_store.specs.declared.drain_end.DrainEnd.{DrainEnd}
use Rattle.shared_store.specs.declared.drain_end.DrainEnd.TheVariants.{Done, DiskFault, Spent, NoMemory}
use Rattle.shared_store.specs.declared.drain_end.Stop.{Stop}
use Rattle.shared_store.specs.declared.drain_end.Stop.TheVariants as stop
use Rattle.shared_store.specs.Passes.{Enters, HasRoom, IsNoLess, IsSettled, IsSpent, IsUnderWay, planned_in, settled_in}
use Rattle.shared_store.specs.Steps.{FailedPlan, NeedsNoWrite}

-- drains by a pass at a moment, of classes from this one on and below that one, none of a lower class than one before it
abbrev pub RiseWithin : ℕ → ℕ → ℕ → ℕ → List Entry → Type 0
RiseWithin pass now class most [] = class ≤ most
RiseWithin pass now class most (entry ∷ others) =
    (next : ℕ) × (class ≤ next) × ((next < most) × (IsDrainOf pass next now entry × RiseWithin pass now next most others))

-- nobody else made an entry in the call: what the pass sees more is its own
abbrev pub StoodAlone : List Entry → PassValue → PassValue → Type 0
StoodAlone entries old new = new.seen ≡ old.seen ++ entries

-- the pass's last look at a class has all drains of it that the pass sees
abbrev pub HasPlanned : ℕ → PassValue → Type 0
HasPlanned class new = planned_in class new ≡ drains (about_class class new.seen)

-- and each of them was written whole
pub record IsWhole (class : ℕ) (new : PassValue) : Type 0 where
  pub all : HasPlanned class new
  pub settled : IsSettled class new

-- All classes were drained.
pub record DrainsWhole (start : State) (passes now count : ℕ) (old new : PassValue) : Type 0 where
  pub made : List Entry
  pub enters : Enters start passes made old new
  pub rise : RiseWithin old.number now 0 16 made
  pub counted : length made ≡ count
  pub alone : StoodAlone made old new → DrainsAll (replay start old.seen) old.number now made
  pub written : StoodAlone made old new → (k : ℕ) → k < 16 → IsWhole k new

-- The last of these entries, the first of which came in this state, is the drain of a metric of the class that had something to write.
pub record EndsUnwritten (s : State) (class : ℕ) (made : List Entry) : Type 0 where
  pub before : List Entry
  pub pass : ℕ
  pub path : List ℕ
  pub now : ℕ
  pub is : made ≡ before ++ Drain pass path now ∷ []
  pub here : class_of path ≡ class
  pub needs : NeedsNoWrite (replay s before) path now → ⊥

-- the pass sees a drain of the class that it did not see written whole
abbrev pub IsOwed : ℕ → PassValue → Type 0
IsOwed class pass = settled_in class pass < drains (about_class class pass.seen)

-- The disk failed in a step of the drain of the class that is under way. Where the call stood alone, that is one from before it, and then it drained
-- no metric of the class, or the last that it drained.
pub record FailedRun (start : State) (class : ℕ) (made : List Entry) (old new : PassValue) : Type 0 where
  pub under : IsUnderWay class new
  pub whose : StoodAlone (made ++ Fault old.number class ∷ []) old new
      → (IsOwed class old × (about_class class made ≡ [])) ⊎ EndsUnwritten (replay start old.seen) class made

-- The disk of a class failed: the last entry tells so, behind drains of classes up to this one. It failed in a plan of what was pending, with no
-- drain of the class under way, or in a step of the one that is.
pub record DrainsToFault (start : State) (passes now class : ℕ) (old new : PassValue) : Type 0 where
  pub within : class < 16
  pub made : List Entry
  pub enters : Enters start passes (made ++ Fault old.number class ∷ []) old new
  pub rise : RiseWithin old.number now 0 (class + 1) made
  pub alone : StoodAlone (made ++ Fault old.number class ∷ []) old new → DrainsUpTo (replay start old.seen) old.number class now made
  pub written : StoodAlone (made ++ Fault old.number class ∷ []) old new → (k : ℕ) → k < class → IsWhole k new
  pub planned : HasPlanned class new
  pub either : FailedPlan start class new ⊎ FailedRun start class made old new

-- The call was cut short, in some class.
pub record DrainsPartly (start : State) (passes now : ℕ) (old new : PassValue) : Type 0 where
  pub made : List Entry
  pub class : ℕ
  pub within : class ≤ 16
  pub enters : Enters start passes made old new
  pub rise : RiseWithin old.number now 0 16 made
  pub alone : StoodAlone made old new → DrainsUpTo (replay start old.seen) old.number class now made

-- how many metrics of a class the pass drained
abbrev pub drained_in : ℕ → PassValue → ℕ
drained_in class pass = drains (about_class class (own_entries pass))

-- Of a class no more metrics were drained in the call than were pending when it came to the class: the pass had seen this then, and drained none of it before.
pub record DrainsFew (start : State) (class : ℕ) (old new : PassValue) : Type 0 where
  pub came : List Entry
  pub behind : IsPrefix old.seen came
  pub begins : IsPrefix came new.seen
  pub none : drains (about_class class (of_pass old.number came)) ≡ drained_in class old
  pub few : drained_in class new ≤ drained_in class old + length ((replay start came).pending class)

-- What each answer tells. The pass is spent where it has not the room that a call needs, and a fault is told also where it took the last of that room.
abbrev pub DrainsTo : State → ℕ → ℕ → DrainEnd → PassValue → PassValue → Type 0
DrainsTo start passes now (Done count) old new = DrainsWhole start passes now count old new × HasRoom new
DrainsTo start passes now (DiskFault class) old new = DrainsToFault start passes now class old new
DrainsTo start passes now Spent old new = DrainsPartly start passes now old new × IsSpent new
DrainsTo start passes now NoMemory old new = DrainsPartly start passes now old new × HasRoom new

-- ---- inside a call

-- drains of metrics of a class at a moment, by a pass
abbrev pub AreDrainsOf : ℕ → ℕ → ℕ → List Entry → Type 0
AreDrainsOf pass class now [] = Unit {0}
AreDrainsOf pass class now (entry ∷ others) = IsDrainOf pass class now entry × AreDrainsOf pass class now others

-- its looks at this class are no less than they were, and those at other classes what they were
pub record LooksIn (class : ℕ) (old new : PassValue) : Type 0 where
  pub here : IsNoLess (look_at class old.looks) (look_at class new.looks)
  pub others : (other : ℕ) → other ≢ class → look_at other new.looks ≡ look_at other old.looks
  pub sights : old.sights ≤ new.sights

-- the pass drained some metrics of a class, and did no more
pub record DrainsPart (start : State) (passes class now : ℕ) (old new : PassValue) : Type 0 where
  pub made : List Entry
  pub enters : Enters start passes made old new
  pub each : AreDrainsOf old.number class now made

-- and then the disk of the class failed
pub record DrainsFailing (start : State) (passes class now : ℕ) (old new : PassValue) : Type 0 where
  pub made : List Entry
  pub enters : Enters start passes (made ++ Fault old.number class ∷ []) old new
  pub each : AreDrainsOf old.number class now made
  pub planned : HasPlanned class new
  pub either : FailedPlan start class new ⊎ FailedRun start class made old new

-- what each end before a class is drained tells
abbrev pub StopsIn : State → ℕ → ℕ → ℕ → Stop → PassValue → PassValue → Type 0
StopsIn start passes class now stop.DiskFault old new = DrainsFailing start passes class now old new
StopsIn start passes class now stop.Spent old new = DrainsPart start passes class now old new × IsSpent new
StopsIn start passes class now stop.NoMemory old new = DrainsPart start passes class now old new × HasRoom new

-- what each end before a drain is written whole tells
abbrev pub StopsWriting : State → ℕ → ℕ → Stop → PassValue → PassValue → Type 0
StopsWriting start passes class stop.DiskFault old new = (now : ℕ) → DrainsFailing start passes class now old new
StopsWriting start passes class stop.Spent old new = (new ≡ old) × IsSpent new
StopsWriting start passes class stop.NoMemory old new = ⊥

-- the drains of a class that the pass sees are written whole, and it has made no entry
pub record WritesWhole (start : State) (passes class : ℕ) (old new : PassValue) : Type 0 where
  pub enters : Enters start passes [] old new
  pub whole : IsWhole class new
  pub room : HasRoom new

-- A metric of the class was drained and written whole, or another pass had begun to drain one, and that one was: so fewer are pending where
-- the call stood alone.
pub record DrainsOne (start : State) (passes class now : ℕ) (old new : PassValue) : Type 0 where
  pub part : DrainsPart start passes class now old new
  pub fewer : StoodAlone part.made old new → length ((replay start new.seen).pending class) < length ((replay start old.seen).pending class)
  pub whole : IsWhole class new
  pub room : HasRoom new

-- The metrics of a class were drained.
pub record DrainsHere (start : State) (passes class now : ℕ) (old new : PassValue) : Type 0 where
  pub part : DrainsPart start passes class now old new
  pub none : StoodAlone part.made old new → (replay start new.seen).pending class ≡ []
  pub whole : IsWhole class new
  pub room : HasRoom new

-- what the answers of these calls tell
abbrev pub Finishes : State → ℕ → ℕ → Result (Unit {0}) Stop → PassValue → PassValue → Type 0
Finishes start passes class (Ok done) old new = WritesWhole start passes class old new
Finishes start passes class (Err stop) old new = StopsWriting start passes class stop old new

abbrev pub WritesTo : State → ℕ → ℕ → Result Bool Stop → PassValue → PassValue → Type 0
WritesTo start passes class (Ok true) old new = WritesWhole start passes class old new
WritesTo start passes class (Ok false) old new = ⊥
WritesTo start passes class (Err stop) old new = StopsWriting start passes class stop old new

abbrev pub DrainsNext : State → ℕ → ℕ → ℕ → Result Bool Stop → PassValue → PassValue → Type 0
DrainsNext start passes class now (Ok true) old new = DrainsOne start passes class now old new
DrainsNext start passes class now (Ok false) old new = DrainsHere start passes class now old new
DrainsNext start passes class now (Err stop) old new = StopsIn start passes class now stop old new

abbrev pub DrainsClassTo : State → ℕ → ℕ → ℕ → Result (Unit {0}) Stop → PassValue → PassValue → Type 0
DrainsClassTo start passes class now (Ok done) old new = DrainsHere start passes class now old new
DrainsClassTo start passes class now (Err stop) old new = StopsIn start passes class now stop old new

abbrev pub end_of : Stop → ℕ → DrainEnd
end_of stop.DiskFault class = DiskFault class
end_of stop.Spent class = Spent
end_of stop.NoMemory class = NoMemory

-- The passes of a crew.
use Rattle.std.specs.Prelude.{◌≡◌, ◌≤◌, ◌+◌, ◌-◌, ◌^◌, ◌||◌, ℕ, nat_lt, All, Bool, true, false, List, [], ◌∷◌, ◌++◌, length, reverse, Option, Some, None, IfSome, if◌then◌else◌}
use Rattle.std.specs.List.{AllZip, list_any}
use mathlib.Core.List.{IsPrefix}
use Rattle.atomic_table.specs.Seated.{TableId}
use Rattle.carbon_model.specs.State.{State}
use Rattle.shared_history.specs.Parts.{AreNewPasses, PassValue, own_entries}
use Rattle.shared_store.specs.Drains.{DrainsTo}
use Rattle.shared_store.specs.declared.drain_end.DrainEnd.{DrainEnd}
use Rattle.shared_store.specs.declared.drain_end.DrainEnd.TheVariants.{Spent}
use Rattle.http_front.specs.Origin.{Origin}
use Rattle.carbon_serve.specs.Workers.{Works}
use Rattle.carbon_serve.specs.Deeds.{Did, Telling}
use Rattle.carbon_serve.specs.declared.crew.Duties.{Duties}
use Rattle.carbon_serve.specs.declared.workers.Role.{Role}
use Rattle.carbon_serve.specs.declared.workers.Role.TheVariants as role
use Rattle.carbon_serve.specs.declared.workers.Worker.{Worker}

abbrev pub pass_list : Option PassValue → List PassValue
pass_list None = []
pass_list (Some pass) = pass ∷ []

abbrev pub passes_of : List Worker → List PassValue
passes_of [] = []
passes_of (worker ∷ workers) = pass_list worker.pass ++ passes_of workers

-- What a worker does whose pass has this number: the first ones receive, those behind them render, and all others drain.
abbrev pub role_of : ℕ → Duties → Role
role_of number duties =
    if nat_lt number duties.receivers then role.Receiver else
    (if nat_lt (number - duties.receivers) duties.renderers then role.Renderer duties.answer_bytes else role.Drainer duties.pace)

-- a worker does what the number of its pass says
abbrev pub HasRole : Duties → Worker → Type 0
HasRole duties worker = IfSome worker.pass (λ pass. worker.role ≡ role_of pass.number duties)

-- The passes of workers, in order of their numbers: the last worker has the first one.
abbrev pub in_order : List Worker → List PassValue
in_order workers = reverse (passes_of workers)

-- each of these passes went on
abbrev pub AllWent : (ℕ → Type 0) → State → List PassValue → List PassValue → Type 0
AllWent moments start old new = AllZip (Works moments start) old new

-- each of these passes did what its number says
abbrev pub AllDid : {L : Type 0} → Telling L → Origin → Duties → List PassValue → List PassValue → Type 0
AllDid links w duties old new = AllZip (λ before after. Did links w (role_of before.number duties) before after) old new

-- what contracts see of a crew: the passes of its workers, in order of their numbers, its own, and its duties
pub record CrewValue : Type 0 where
  pub served : List PassValue
  pub own : PassValue
  pub duties : Duties

-- a crew whose passes, which are all that were made, have done nothing yet
pub record IsNewCrew (table : TableId) (passes : ℕ) (crew : CrewValue) : Type 0 where
  pub new : AreNewPasses table (crew.served ++ crew.own ∷ [])
  pub all : length (crew.served ++ crew.own ∷ []) ≡ passes

-- a crew whose workers have done what their numbers say, from a store, a clock and links
pub record IsServedCrew {L : Type 0} (table : TableId) (links : Telling L) (w : Origin) (crew : CrewValue) : Type 0 where
  pub before : List PassValue
  pub new : AreNewPasses table (before ++ crew.own ∷ [])
  pub all : length (before ++ crew.own ∷ []) ≡ w.passes
  pub went : AllWent w.moments w.start before crew.served
  pub did : AllDid links w crew.duties before crew.served

-- ---- passes that came back

-- a pass has no room for the entries of another call
abbrev pub lacks_room : PassValue → Bool
lacks_room pass = nat_lt (2 ^ 48) (length (own_entries pass) + 4)

-- what each of these passes had seen begins what this one has seen
abbrev pub HasLearned : PassValue → List PassValue → Type 0
HasLearned own passes = All (λ pass. IsPrefix pass.seen own.seen) passes

-- a pass saw more, and made no entry
pub record OnlySaw (old new : PassValue) : Type 0 where
  pub table : new.table ≡ old.table
  pub number : new.number ≡ old.number
  pub begins : IsPrefix old.seen new.seen
  pub none : own_entries new ≡ own_entries old

-- what contracts see of a crew that has mustered: also whether a pass of it lacks room, and for how
-- many more there is a place
pub record MusterValue : Type 0 where
  pub served : List PassValue
  pub own : PassValue
  pub is_spent : Bool
  pub places : ℕ

-- All these passes came back to the crew's own, which had been this one and has seen what they had.
pub record Musters (passes : List PassValue) (before : PassValue) (muster : MusterValue) : Type 0 where
  pub served : muster.served ≡ passes
  pub learned : HasLearned muster.own passes
  pub own : OnlySaw before muster.own
  pub spent : muster.is_spent ≡ list_any lacks_room passes

-- These passes came to those that it had, and its own has seen what they had.
pub record Adds (added : List PassValue) (old new : MusterValue) : Type 0 where
  pub served : new.served ≡ old.served ++ added
  pub learned : HasLearned new.own added
  pub own : OnlySaw old.own new.own
  pub spent : new.is_spent ≡ (old.is_spent || list_any lacks_room added)
  pub places : old.places ≤ new.places + length added

-- How the crew's own pass came to the end: one of the others was spent, and it did nothing; or it
-- drained all that was pending, at a moment of the clock.
abbrev pub Finishes : (ℕ → Type 0) → State → ℕ → Bool → DrainEnd → PassValue → PassValue → Type 0
Finishes moments start passes true end old new = (end ≡ Spent) × (new ≡ old)
Finishes moments start passes false end old new = (now : ℕ) × (moments now × DrainsTo start passes now end old new)

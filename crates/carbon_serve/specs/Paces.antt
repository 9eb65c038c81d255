-- How fast a drainer goes.
use Rattle.std.specs.Prelude.{◌≡◌, ◌≢◌, ◌⊎◌, ◌+◌, ℕ, Bool, true, false, Option, None, Some}
use Rattle.carbon_model.specs.State.{State}
use Rattle.shared_store.specs.Steps.{MakesFileNext}
use Rattle.shared_store.specs.declared.step.Step.{Step}
use Rattle.shared_store.specs.declared.step.Step.TheVariants as step
use Rattle.carbon_serve.specs.Rates.{may_more}
use Rattle.carbon_serve.specs.declared.pace.Pacer.{Pacer}
use Rattle.carbon_serve.specs.declared.pace.Permit.{Permit}
use Rattle.carbon_serve.specs.declared.pace.Permit.TheVariants.{Drain, Create}

abbrev pub may_drain : Pacer → Bool
may_drain pacer = may_more pacer.pace.drains pacer.drains

abbrev pub may_create : Pacer → Bool
may_create pacer = may_more pacer.pace.creates pacer.creates

-- no bound for anything
pub record IsFree (pacer : Pacer) : Type 0 where
  pub drains : pacer.pace.drains ≡ 0
  pub creates : pacer.pace.creates ≡ 0

-- The drain that a drainer may begin, where that makes a file which is counted, or not: none only where the second has no more
-- drains, or no more files and one would be made.
abbrev pub Permits : Pacer → Bool → Option Permit → Type 0
Permits pacer creates None = (may_drain pacer ≡ false) ⊎ ((creates ≡ true) × (may_create pacer ≡ false))
Permits pacer creates (Some Drain) = (may_drain pacer ≡ true) × (creates ≡ false)
Permits pacer creates (Some Create) = (may_drain pacer ≡ true) × ((creates ≡ true) × (may_create pacer ≡ true))

-- the second has room for it
abbrev pub IsPermitted : Pacer → Permit → Type 0
IsPermitted pacer Drain = may_drain pacer ≡ true
IsPermitted pacer Create = (may_drain pacer ≡ true) × (may_create pacer ≡ true)

-- What a drainer may begin in a class, after all that its pass sees: a file is counted only where the drain that goes next makes one.
abbrev pub PermitsIn : State → ℕ → Pacer → Option Permit → Type 0
PermitsIn s class pacer permit = (creates : Bool) × (Permits pacer creates permit × (creates ≡ true → MakesFileNext s class))

-- one drain more was begun in the second, where they are counted
pub record CountsDrain (old new : Pacer) : Type 0 where
  pub pace : new.pace ≡ old.pace
  pub second : new.second ≡ old.second
  pub one : old.pace.drains ≢ 0 → new.drains ≡ old.drains + 1

-- one file more was made in the second, where they are counted
pub record CountsCreate (old new : Pacer) : Type 0 where
  pub pace : new.pace ≡ old.pace
  pub second : new.second ≡ old.second
  pub one : old.pace.creates ≢ 0 → new.creates ≡ old.creates + 1

-- what was permitted was done once more
abbrev pub Counts : Permit → Pacer → Pacer → Type 0
Counts Drain old new = CountsDrain old new × (new.creates ≡ old.creates)
Counts Create old new = CountsDrain old new × CountsCreate old new

-- a drain that a step began was counted, and nothing else
abbrev pub CountsStep : Step → Permit → Pacer → Pacer → Type 0
CountsStep step.Took permit old new = Counts permit old new
CountsStep step.Wrote permit old new = new ≡ old
CountsStep step.Finished permit old new = new ≡ old
CountsStep step.Idle permit old new = new ≡ old
CountsStep step.DiskFault permit old new = new ≡ old
CountsStep step.NoMemory permit old new = new ≡ old

-- What a drainer makes of a class.
use Rattle.std.specs.Prelude.{◌≡◌, ◌⊎◌, ℕ, Bool, true, false}
use Rattle.carbon_history.specs.Entries.{listed}
use Rattle.carbon_model.specs.State.{State}
use Rattle.shard_core.specs.declared.planned.Wrote.{Wrote}
use Rattle.shard_core.specs.declared.planned.Wrote.TheVariants as wrote
use Rattle.shared_history.specs.Parts.{PassValue}
use Rattle.shared_store.specs.Passes.{Enters, IsSpent}
use Rattle.shared_store.specs.Steps.{AfterWrite, StepsTo, write_entry}
use Rattle.shared_store.specs.declared.step.Step.{Step}
use Rattle.shared_store.specs.declared.step.Step.TheVariants as step

-- a class got on: the drain of a metric was begun, or a run was written
abbrev pub gets_on : Step → Bool
gets_on step.Took = true
gets_on step.Wrote = true
gets_on step.Finished = true
gets_on step.Idle = false
gets_on step.DiskFault = false
gets_on step.NoMemory = false

abbrev pub writes_on : Wrote → Bool
writes_on wrote.Run = true
writes_on wrote.Finished = true
writes_on wrote.Nothing = false
writes_on wrote.DiskFault = false

-- A class had a step, at one of these moments, which came to this.
abbrev pub StepsOnce : (ℕ → Type 0) → State → ℕ → ℕ → Step → PassValue → PassValue → Type 0
StepsOnce moments start passes class came old new =
    (now : ℕ) × (moments now × StepsTo start passes class now came old new)

-- It had one, and got on or not; or it had none, since the pass has no room for what that enters.
abbrev pub TriesClass : (ℕ → Type 0) → State → ℕ → ℕ → Bool → PassValue → PassValue → Type 0
TriesClass moments start passes class moved old new =
    ((came : Step) × (StepsOnce moments start passes class came old new × (moved ≡ gets_on came)))
    ⊎ (IsSpent old × ((new ≡ old) × (moved ≡ false)))

-- Of a class the next run of a drain was written, where there was one: nothing was begun.
abbrev pub WritesOnce : State → ℕ → ℕ → Bool → PassValue → PassValue → Type 0
WritesOnce start passes class moved old new =
    (wrote : Wrote) × (Enters start passes (listed (write_entry old.number class wrote)) old new
    × (AfterWrite class wrote old new × (moved ≡ writes_on wrote)))

-- It was, or the pass has no room for what that enters.
abbrev pub TriesWrite : State → ℕ → ℕ → Bool → PassValue → PassValue → Type 0
TriesWrite start passes class moved old new =
    WritesOnce start passes class moved old new ⊎ (IsSpent old × ((new ≡ old) × (moved ≡ false)))

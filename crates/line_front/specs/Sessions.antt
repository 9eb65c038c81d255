-- What a line makes of the code that serves a link.
use Rattle.std.specs.Prelude.{◌≡◌, ◌≢◌, ◌⊎◌, ℕ, List, [], ◌∷◌, ◌++◌, Option, Result, Ok, Err}
use mathlib.Core.List.{IsPrefix}
use Rattle.line_frame.specs.Lines.{Line}
use Rattle.line_service.specs.declared.ends.Stop.{Stop}
use Rattle.line_service.specs.declared.ends.Stop.TheVariants as stop
use Rattle.metric_line.specs.declared.fault.LineFault.{LineFault}
use Rattle.metric_line.specs.declared.fault.LineFault.TheVariants.{NoMemory}
use Rattle.carbon_model.specs.State.{State}
use Rattle.shared_history.specs.Parts.{PassValue}
use Rattle.shared_store.specs.Passes.{HasRoom}
use Rattle.line_front.specs.Counts.{refused}
use Rattle.line_front.specs.Links.{HandlesThen, IsSpent, LacksMemory, LacksRoom, ReadsThen, SeesMore, SessionValue, Timed, timed}

-- a clock, and all moments for which it was read, in order
pub record Watched (C : Type 0) : Type 0 where
  pub clock : C
  pub told : List ℕ

-- what contracts see of the code: the clock and its readings, and the session
pub record LinkValue (C : Type 0) : Type 0 where
  pub watch : Watched C
  pub session : SessionValue

-- the same without the clock
abbrev pub timed_of : {C : Type 0} → LinkValue C → Timed
timed_of link = timed link.watch.told link.session

-- the clock was read once more, for this moment
abbrev pub with_reading : {C : Type 0} → LinkValue C → ℕ → LinkValue C
with_reading link now = record link { watch = record link.watch { told = link.watch.told ++ now ∷ [] } }

-- whether the pass has room for the entries of another call
abbrev pub TellsRoom : {T : Type 0} → Result T Stop → PassValue → Type 0
TellsRoom (Ok u) pass = HasRoom pass
TellsRoom (Err reason) pass = (reason ≡ stop.Spent) × IsSpent pass

-- there was no memory for a put, which may have seen more of the history
abbrev pub PutsNone : State → ℕ → Stop → SessionValue → SessionValue → Type 0
PutsNone start passes reason old new = (reason ≡ stop.NoMemory) × SeesMore start passes old new

-- a line was refused for this reason, which is counted; want of memory is no reason, and changes nothing
abbrev pub Refuses : {C T : Type 0} → LineFault → Result T Stop → LinkValue C → LinkValue C → Type 0
Refuses fault (Ok u) old new =
    (fault ≢ NoMemory) × (new ≡ record old { session = record old.session { counts = refused old.session.counts fault } })
Refuses fault (Err reason) old new = (fault ≡ NoMemory) × ((reason ≡ stop.NoMemory) × (new ≡ old))

-- what stands where a line is not handled
abbrev pub StopsBy : (ℕ → Type 0) → State → ℕ → Line → Stop → SessionValue → SessionValue → Type 0
StopsBy moments start passes line stop.WriteFault old new = ⊥
StopsBy moments start passes line (stop.DiskFault class) old new = ⊥
StopsBy moments start passes line stop.Spent old new = ((new ≡ old) ⊎ LacksRoom moments start passes line old new) × IsSpent new.pass
StopsBy moments start passes line stop.NoMemory old new = LacksMemory moments start passes line old new

-- the same where perhaps the clock was read for lines that were not handled: for this one first
pub record StopsThen (moments : ℕ → Type 0) (start : State) (passes : ℕ) (line : Line) (reason : Stop) (old new : Timed) : Type 0 where
  pub ahead : IsPrefix old.told new.told
  pub stops : StopsBy (ReadsThen moments old.told new.told) start passes line reason old.session new.session

-- a line was handled, by the same clock
pub record ServesLink {C : Type 0} (moments : C → ℕ → Type 0) (start : State) (passes : ℕ) (old : LinkValue C) (line : Line) (before : Option (List ℕ)) (new : LinkValue C) (after : Option (List ℕ)) : Type 0 where
  pub clock : new.watch.clock ≡ old.watch.clock
  pub handles : HandlesThen (moments old.watch.clock) start passes line (timed_of old) (timed_of new)

-- or was not
pub record StopsLink {C : Type 0} (moments : C → ℕ → Type 0) (start : State) (passes : ℕ) (old : LinkValue C) (line : Line) (before : Option (List ℕ)) (reason : Stop) (new : LinkValue C) (after : Option (List ℕ)) : Type 0 where
  pub clock : new.watch.clock ≡ old.watch.clock
  pub stops : StopsThen (moments old.watch.clock) start passes line reason (timed_of old) (timed_of new)

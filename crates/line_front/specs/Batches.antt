-- What a batch of lines makes of the code that serves a link.
use Rattle.std.specs.Prelude.{◌≡◌, ◌≢◌, ◌⊎◌, ◌<◌, ◌≤◌, ◌+◌, ◌^◌, ℕ, Bool, true, false, List, [], ◌∷◌, ◌++◌, Result, Ok, Err, IsOk, length}
use Rattle.line_frame.specs.Lines.{Framing, Line, Whole, TooLong}
use Rattle.line_service.specs.declared.ends.Stop.{Stop}
use Rattle.line_service.specs.declared.ends.Stop.TheVariants as stop
use Rattle.metric_line.specs.declared.datum.Datum.{Datum}
use Rattle.metric_line.specs.declared.fault.LineFault.{LineFault}
use Rattle.metric_line.specs.declared.fault.LineFault.TheVariants.{NoMemory}
use Rattle.metric_line.specs.LineDatum.{datum_of}
use Rattle.metric_line.specs.Seen.{seen}
use Rattle.carbon_model.specs.State.{State}
use Rattle.shared_history.specs.Parts.{PassValue, own_entries}
use Rattle.shared_store.specs.Passes.{HasRoom}
use Rattle.line_front.specs.Counts.{overlong}
use Rattle.line_front.specs.Links.{HandlesAll, IsSpent, Puts, ReadsOnce, SeesMore, SessionValue, Timed}
use Rattle.line_front.specs.Sessions.{LinkValue, Refuses, StopsThen}
use Rattle.line_front.specs.declared.batch.NoPoint.{NoPoint}
use Rattle.line_front.specs.declared.batch.NoPoint.TheVariants as none

-- ---- reading

-- a line was read as this point, at some moment of the clock
abbrev pub IsReadAs : (ℕ → Type 0) → Line → Datum → Type 0
IsReadAs moments (Whole line) datum = (now : ℕ) × (moments now × (datum_of line now ≡ Ok (seen datum)))
IsReadAs moments TooLong datum = ⊥

-- these lines were read as these points, each at a reading of its own of the clock, and no other reading was made
abbrev pub AreRead : (ℕ → Type 0) → List ℕ → List Line → List Datum → List ℕ → Type 0
AreRead moments told [] [] told' = told' ≡ told
AreRead moments told [] (datum ∷ points) told' = ⊥
AreRead moments told (line ∷ others) [] told' = ⊥
AreRead moments told (line ∷ others) (datum ∷ points) told' =
    (mid : List ℕ) × (IsReadAs (ReadsOnce moments told mid) line datum × AreRead moments mid others points told')

-- a line is refused for this reason, or there was no memory for it, which has a point
pub record IsRefusedAs (moments : ℕ → Type 0) (line : List ℕ) (fault : LineFault) : Type 0 where
  pub now : ℕ
  pub told : moments now
  pub reason : fault ≢ NoMemory → datum_of line now ≡ Err fault
  pub memory : fault ≡ NoMemory → IsOk (datum_of line now)

-- a point is put behind the others, or there is no memory for it
abbrev pub AddsPoint : {T : Type 0} → Datum → Result T NoPoint → List Datum → List Datum → Type 0
AddsPoint datum (Ok u) old new = new ≡ old ++ datum ∷ []
AddsPoint datum (Err reason) old new = (reason ≡ none.Refused NoMemory) × (new ≡ old)

-- what the read of a line makes of the points
abbrev pub ReadsPoint : {T : Type 0} → (ℕ → Type 0) → List ℕ → Result T NoPoint → List Datum → List Datum → Type 0
ReadsPoint moments line (Ok u) old new = (datum : Datum) × (IsReadAs moments (Whole line) datum × (new ≡ old ++ datum ∷ []))
ReadsPoint moments line (Err none.NoLine) old new = ⊥
ReadsPoint moments line (Err (none.Refused fault)) old new = IsRefusedAs moments line fault × (new ≡ old)
ReadsPoint moments line (Err none.Long) old new = ⊥

-- of the lines `waiting` the others wait, behind one that has no point, if there is one; for that the clock was read, unless it is too long
abbrev pub IsWithoutPoint : (ℕ → Type 0) → List ℕ → NoPoint → List Line → List Line → List ℕ → Type 0
IsWithoutPoint moments told none.NoLine waiting others told' = (told' ≡ told) × ((waiting ≡ []) × (others ≡ []))
IsWithoutPoint moments told (none.Refused fault) waiting others told' =
    (line : List ℕ) × (IsRefusedAs (ReadsOnce moments told told') line fault × (waiting ≡ Whole line ∷ others))
IsWithoutPoint moments told none.Long waiting others told' = (told' ≡ told) × (waiting ≡ TooLong ∷ others)

-- the lines that wait at a framer, and all moments for which the clock was read
pub record Reading : Type 0 where
  pub told : List ℕ
  pub framing : Framing

abbrev pub reading : List ℕ → Framing → Reading
reading told framing = record { told = told; framing = framing }

-- what the read of the next line makes of the points
abbrev pub ReadsNext : {T : Type 0} → (ℕ → Type 0) → Result T NoPoint → Reading → Reading → List Datum → List Datum → Type 0
ReadsNext moments (Ok u) r r' old new =
    (line : Line) × (datum : Datum)
    × (IsReadAs (ReadsOnce moments r.told r'.told) line datum × ((r.framing.waiting ≡ line ∷ r'.framing.waiting) × (new ≡ old ++ datum ∷ [])))
ReadsNext moments (Err reason) r r' old new = IsWithoutPoint moments r.told reason r.framing.waiting r'.framing.waiting r'.told × (new ≡ old)

-- what the read of a batch leaves of the lines that wait behind its points
abbrev pub LeavesWaiting : {T : Type 0} → (ℕ → Type 0) → List ℕ → Result T NoPoint → List Datum → List Line → List Line → List ℕ → Type 0
LeavesWaiting moments told (Ok u) points waiting others told' = (told' ≡ told) × ((0 < length points) × (waiting ≡ others))
LeavesWaiting moments told (Err reason) points waiting others told' = IsWithoutPoint moments told reason waiting others told'

-- the first lines that waited were read as these points
pub record ReadsFirst (moments : ℕ → Type 0) (old new : Reading) (points : List Datum) : Type 0 where
  pub handed : List Line
  pub read : AreRead moments old.told handed points new.told
  pub split : old.framing.waiting ≡ handed ++ new.framing.waiting
  pub open_line : new.framing.open_line ≡ old.framing.open_line

-- a batch was read: these points, and the line behind them that has none
pub record ReadsPoints {T : Type 0} (moments : ℕ → Type 0) (result : Result T NoPoint) (old new : Reading) (points : List Datum) : Type 0 where
  pub handed : List Line
  pub behind : List Line
  pub mid : List ℕ
  pub read : AreRead moments old.told handed points mid
  pub split : old.framing.waiting ≡ handed ++ behind
  pub leaves : LeavesWaiting moments mid result points behind new.framing.waiting new.told
  pub open_line : new.framing.open_line ≡ old.framing.open_line

-- ---- putting

-- no rules gather the points of the link
abbrev pub HasNoRules : SessionValue → Type 0
HasNoRules session = session.gathered.rules ≡ []

-- the pass has room for the entries of a batch's points, without those that rules emit for them, and for the line behind it
abbrev pub HasBatchRoom : PassValue → Type 0
HasBatchRoom pass = length (own_entries pass) + 260 ≤ 2 ^ 48

-- a point was put, by a pass that had room for the entries of a call
pub record PutsOne (start : State) (passes : ℕ) (datum : Datum) (old new : SessionValue) : Type 0 where
  pub room : HasRoom old.pass
  pub puts : Puts start passes (seen datum) old new

-- the points were put, one after the other
abbrev pub PutsAll : State → ℕ → List Datum → SessionValue → SessionValue → Type 0
PutsAll start passes [] old new = new ≡ old
PutsAll start passes (datum ∷ points) old new = (mid : SessionValue) × (PutsOne start passes datum old mid × PutsAll start passes points mid new)

-- the first points were put, and there was no memory for the one that follows
pub record PutsFewer (start : State) (passes : ℕ) (reason : Stop) (points : List Datum) (old new : SessionValue) : Type 0 where
  pub first : List Datum
  pub datum : Datum
  pub others : List Datum
  pub split : points ≡ first ++ datum ∷ others
  pub mid : SessionValue
  pub puts : PutsAll start passes first old mid
  pub is : reason ≡ stop.NoMemory
  pub sees : SeesMore start passes mid new

-- ---- the line behind the points

-- the pass has no room for a line, and all is as before
abbrev pub StaysSpent : {C : Type 0} → Stop → LinkValue C → LinkValue C → Type 0
StaysSpent reason old new = (reason ≡ stop.Spent) × ((new ≡ old) × IsSpent old.session.pass)

-- what a line that is refused makes of a session
abbrev pub EndsRefused : {C : Type 0} → LineFault → Result Bool Stop → LinkValue C → LinkValue C → Type 0
EndsRefused fault (Ok more) old new = (more ≡ true) × (HasRoom old.session.pass × Refuses fault (Ok more) old new)
EndsRefused fault (Err reason) old new = StaysSpent reason old new ⊎ Refuses {T = Bool} fault (Err reason) old new

-- the same of one that is too long
abbrev pub EndsLong : {C : Type 0} → Result Bool Stop → LinkValue C → LinkValue C → Type 0
EndsLong (Ok more) old new =
    (more ≡ true) × (HasRoom old.session.pass × (new ≡ record old { session = record old.session { counts = overlong old.session.counts } }))
EndsLong (Err reason) old new = StaysSpent reason old new

-- what the line that has no point makes of a session, and whether another line may wait
abbrev pub EndsBatch : {C T : Type 0} → Result T NoPoint → Result Bool Stop → LinkValue C → LinkValue C → Type 0
EndsBatch (Ok u) (Ok more) old new = (more ≡ true) × (new ≡ old)
EndsBatch (Ok u) (Err reason) old new = ⊥
EndsBatch (Err none.NoLine) (Ok more) old new = (more ≡ false) × (new ≡ old)
EndsBatch (Err none.NoLine) (Err reason) old new = ⊥
EndsBatch (Err (none.Refused fault)) result old new = EndsRefused fault result old new
EndsBatch (Err none.Long) result old new = EndsLong result old new

-- whether fewer lines wait, or none
abbrev pub LeavesFewer : Bool → List Line → List Line → Type 0
LeavesFewer true old new = length new < length old
LeavesFewer false old new = new ≡ []

-- of the lines that waited the first were handled, and the others still wait
pub record BatchServes (moments : ℕ → Type 0) (start : State) (passes : ℕ) (more : Bool) (framing : Framing) (old : Timed) (framing' : Framing) (new : Timed) : Type 0 where
  pub handed : List Line
  pub split : framing.waiting ≡ handed ++ framing'.waiting
  pub handles : HandlesAll moments start passes old handed new
  pub open_line : framing'.open_line ≡ framing.open_line
  pub fewer : LeavesFewer more framing.waiting framing'.waiting

-- of the lines that waited the first were handled, and the one that follows was not
pub record BatchStops (moments : ℕ → Type 0) (start : State) (passes : ℕ) (reason : Stop) (waiting : List Line) (old new : Timed) : Type 0 where
  pub handed : List Line
  pub line : Line
  pub others : List Line
  pub split : waiting ≡ handed ++ line ∷ others
  pub mid : Timed
  pub handles : HandlesAll moments start passes old handed mid
  pub stops : StopsThen moments start passes line reason mid new

-- What a line link makes of the history.
use Rattle.std.specs.Prelude.{◌≡◌, ◌≢◌, ◌⊎◌, ◌<◌, ◌+◌, ◌^◌, ℕ, List, [], ◌∷◌, ◌++◌, Option, Result, Ok, Err, IsOk, length}
use Rattle.std.specs.Io.KnownBytes.{Consumes, IsAtEnd}
use mathlib.Core.List.{IsPrefix}
use Rattle.line_frame.specs.Lines.{Line, Whole, TooLong, lines}
use Rattle.line_service.specs.Service.{RunsOut}
use Rattle.outside_io.specs.declared.sink.Sink.{Ghosts}
use Rattle.metric_line.specs.declared.fault.LineFault.{LineFault}
use Rattle.metric_line.specs.declared.fault.LineFault.TheVariants.{NoMemory}
use Rattle.metric_line.specs.LineDatum.{datum_of}
use Rattle.metric_line.specs.Point.{Point}
use Rattle.aggregate_rules.specs.RuleTexts.{RuleValue}
use Rattle.aggregate_front.specs.Emitting.{AggregatorValue}
use Rattle.carbon_history.specs.declared.entry.Entry.{Entry}
use Rattle.carbon_history.specs.declared.entry.PutEnd.{PutEnd}
use Rattle.carbon_model.specs.State.{State}
use Rattle.shared_history.specs.Parts.{PassValue, own_entries}
use Rattle.shared_store.specs.Passes.{Enters, HasRoom}
use Rattle.line_front.specs.Counts.{counted, no_counts, overlong, refused}
use Rattle.line_front.specs.Points.{ArePuts, LinesBring, PutsEach, emitted_for, emitted_at_end, gathered_after, gathered_with, none_gathered, points_put, put_entry}
use Rattle.line_front.specs.declared.counts.Counts.{Counts}
use Rattle.line_front.specs.declared.ends.LineCause.{LineCause}
use Rattle.line_front.specs.declared.ends.LineCause.TheVariants as cause

-- what contracts see of a session of a link: its pass, its lines by what became of them, and what the rules have gathered of its points
pub record SessionValue : Type 0 where
  pub pass : PassValue
  pub counts : Counts
  pub gathered : AggregatorValue

-- a session, and all moments for which its clock was read, in order
pub record Timed : Type 0 where
  pub told : List ℕ
  pub session : SessionValue

abbrev pub timed : List ℕ → SessionValue → Timed
timed told session = record { told = told; session = session }

-- a session that has handled no line yet, by these rules
abbrev pub new_session : List RuleValue → PassValue → SessionValue
new_session rules pass = record { pass = pass; counts = no_counts; gathered = none_gathered rules }

-- a point of a link was put: one entry with its outcome, which is counted
pub record Puts (start : State) (passes : ℕ) (point : Point) (old new : SessionValue) : Type 0 where
  pub end : PutEnd
  pub enters : Enters start passes (put_entry old.pass.number point end ∷ []) old.pass new.pass
  pub counts : new.counts ≡ counted old.counts end
  pub gathered : new.gathered ≡ old.gathered

-- A point of a link was put, then given to the rules, and behind it were put those that they emit for it, which are not counted.
pub record Brings (start : State) (passes : ℕ) (point : Point) (old new : SessionValue) : Type 0 where
  pub put : SessionValue
  pub puts : Puts start passes point old put
  pub emits : PutsEach start passes (emitted_for old.gathered point) put.pass new.pass
  pub counts : new.counts ≡ put.counts
  pub gathered : new.gathered ≡ gathered_with old.gathered point

-- What a line that is read so makes of the session: a point is put, with those that the rules emit for it, and a refused line is counted by its reason.
abbrev pub HandlesRead : State → ℕ → Result Point LineFault → SessionValue → SessionValue → Type 0
HandlesRead start passes (Ok point) old new = Brings start passes point old new
HandlesRead start passes (Err fault) old new = (fault ≢ NoMemory) × (new ≡ record old { counts = refused old.counts fault })

-- the same of a line, at some moment of the clock
abbrev pub HandlesLine : (ℕ → Type 0) → State → ℕ → Line → SessionValue → SessionValue → Type 0
HandlesLine moments start passes (Whole line) old new = (now : ℕ) × (moments now × HandlesRead start passes (datum_of line now) old new)
HandlesLine moments start passes TooLong old new = new ≡ record old { counts = overlong old.counts }

-- ---- readings of the clock

-- the clock was read once, for this moment
abbrev pub ReadsOnce : (ℕ → Type 0) → List ℕ → List ℕ → ℕ → Type 0
ReadsOnce moments told told' now = moments now × (told' ≡ told ++ now ∷ [])

-- it was read for this moment first, and perhaps again: for lines that were read ahead
abbrev pub ReadsThen : (ℕ → Type 0) → List ℕ → List ℕ → ℕ → Type 0
ReadsThen moments told told' now = moments now × IsPrefix (told ++ now ∷ []) told'

-- for a line that is too long it is not read
abbrev pub ReadsNone : Line → List ℕ → List ℕ → Type 0
ReadsNone (Whole line) told told' = Unit {0}
ReadsNone TooLong told told' = told' ≡ told

-- ---- lines

-- A line was handled, by a pass that had room for the entries of a call.
pub record Handles (moments : ℕ → Type 0) (start : State) (passes : ℕ) (line : Line) (old new : SessionValue) : Type 0 where
  pub room : HasRoom old.pass
  pub handles : HandlesLine moments start passes line old new

-- It was handled at a moment of its own, for which the clock was read then, once; for a line that is too long it was not.
pub record HandlesThen (moments : ℕ → Type 0) (start : State) (passes : ℕ) (line : Line) (old new : Timed) : Type 0 where
  pub handles : Handles (ReadsOnce moments old.told new.told) start passes line old.session new.session
  pub none : ReadsNone line old.told new.told

-- these lines were handled one after the other
abbrev pub HandlesAll : (ℕ → Type 0) → State → ℕ → Timed → List Line → Timed → Type 0
HandlesAll moments start passes old [] new = new ≡ old
HandlesAll moments start passes old (line ∷ others) new =
    (next : Timed) × (HandlesThen moments start passes line old next × HandlesAll moments start passes next others new)

-- Lines were handled from where a session stood to where it stands: one after the other. They were read as these points, each at a reading of its own of the
-- clock, and the pass made the puts of these points and of those that the rules emit, in order, and no other entry.
pub record HandlesLines (moments : ℕ → Type 0) (start : State) (passes : ℕ) (handled : List Line) (old new : Timed) : Type 0 where
  pub each : HandlesAll moments start passes old handled new
  pub readings : List ℕ
  pub clock : new.told ≡ old.told ++ readings
  pub points : List Point
  pub read : LinesBring moments readings handled points
  pub gathered : new.session.gathered ≡ gathered_after old.session.gathered points
  pub entries : List Entry
  pub made : ArePuts old.session.pass.number (points_put old.session.gathered points) entries
  pub once : own_entries new.session.pass ≡ own_entries old.session.pass ++ entries

-- ---- the ends of a link

-- the pass has not the room for the entries of another call
abbrev pub IsSpent : PassValue → Type 0
IsSpent pass = 2 ^ 48 < length (own_entries pass) + 4

-- nothing was taken, and nothing was done
pub record TakesNone (taken : List ℕ) (old new : Timed) : Type 0 where
  pub none : taken ≡ []
  pub same : new ≡ old

-- all lines of these bytes were handled
abbrev pub HandlesWhole : (ℕ → Type 0) → State → ℕ → List ℕ → Timed → Timed → Type 0
HandlesWhole moments start passes bytes old new = HandlesLines moments start passes (lines bytes) old new

-- the first lines of these bytes were handled, and another one follows
pub record HandlesFront (moments : ℕ → Type 0) (start : State) (passes : ℕ) (bytes : List ℕ) (old new : Timed) : Type 0 where
  pub handled : List Line
  pub line : Line
  pub others : List Line
  pub split : lines bytes ≡ handled ++ line ∷ others
  pub front : HandlesLines moments start passes handled old new

-- the pass saw more of the history, and made no entry; nothing was counted
pub record SeesMore (start : State) (passes : ℕ) (old new : SessionValue) : Type 0 where
  pub enters : Enters start passes [] old.pass new.pass
  pub counts : new.counts ≡ old.counts

-- nothing was done, or the pass saw more
abbrev pub Idles : State → ℕ → SessionValue → SessionValue → Type 0
Idles start passes old new = (new ≡ old) ⊎ SeesMore start passes old new

-- a line has a point, at some moment of the clock
abbrev pub HasPoint : (ℕ → Type 0) → Line → Type 0
HasPoint moments (Whole line) = (now : ℕ) × (moments now × IsOk (datum_of line now))
HasPoint moments TooLong = ⊥

-- a line was read as this point, at some moment of the clock
abbrev pub IsPointOf : (ℕ → Type 0) → Line → Point → Type 0
IsPointOf moments (Whole line) point = (now : ℕ) × (moments now × (datum_of line now ≡ Ok point))
IsPointOf moments TooLong point = ⊥

-- of some points the first were put, and not those behind them; nothing was counted
pub record PutsFront (start : State) (passes : ℕ) (points : List Point) (old new : SessionValue) : Type 0 where
  pub first : List Point
  pub others : List Point
  pub split : points ≡ first ++ others
  pub emits : PutsEach start passes first old.pass new.pass
  pub counts : new.counts ≡ old.counts

-- The point of a line was put, and then the first of those that the rules emit for it.
pub record BringsFront (moments : ℕ → Type 0) (start : State) (passes : ℕ) (line : Line) (old new : SessionValue) : Type 0 where
  pub point : Point
  pub is : IsPointOf moments line point
  pub put : SessionValue
  pub puts : Puts start passes point old put
  pub emits : PutsFront start passes (emitted_for old.gathered point) put new

-- There was no memory for a line, which has a point: neither was it put, or it was, with the first of those that the rules emit for it. Then nothing
-- was done, but that a put may have seen more of the history.
pub record LacksMemory (moments : ℕ → Type 0) (start : State) (passes : ℕ) (line : Line) (old new : SessionValue) : Type 0 where
  pub mid : SessionValue
  pub begun : (HasPoint moments line × (mid ≡ old)) ⊎ BringsFront moments start passes line old mid
  pub idles : Idles start passes mid new

-- The point of a line was put, and a point that the rules emit for it was not.
pub record LacksRoom (moments : ℕ → Type 0) (start : State) (passes : ℕ) (line : Line) (old new : SessionValue) : Type 0 where
  pub brings : BringsFront moments start passes line old new
  pub some : brings.emits.others ≢ []

-- The first lines of these bytes were handled, and there was no memory for the one that follows. The clock was read for it, and perhaps for lines behind it.
pub record RunsShort (moments : ℕ → Type 0) (start : State) (passes : ℕ) (bytes : List ℕ) (old new : Timed) : Type 0 where
  pub mid : Timed
  pub handles : HandlesFront moments start passes bytes old mid
  pub lacks : LacksMemory (ReadsThen moments mid.told new.told) start passes handles.line mid.session new.session

-- The same where the pass has no room: for the line, for which the clock was perhaps read, or for a point that the rules emit for it.
pub record RunsFull (moments : ℕ → Type 0) (start : State) (passes : ℕ) (bytes : List ℕ) (old new : Timed) : Type 0 where
  pub mid : Timed
  pub handles : HandlesFront moments start passes bytes old mid
  pub ahead : IsPrefix mid.told new.told
  pub lacks : (new.session ≡ mid.session) ⊎ LacksRoom (ReadsThen moments mid.told new.told) start passes handles.line mid.session new.session

-- A link was read to its end, and all its lines were handled.
pub record IsRead (moments : ℕ → Type 0) (start : State) (passes : ℕ) (taken : List ℕ) (left : Option (List ℕ)) (old new : Timed) : Type 0 where
  pub handles : HandlesWhole moments start passes taken old new
  pub at_end : IsAtEnd left
  pub short : length taken < 2 ^ 40

-- What the rules have open then was put. The clock is not read for it.
pub record EmitsAll (moments : ℕ → Type 0) (start : State) (passes : ℕ) (taken : List ℕ) (left : Option (List ℕ)) (old new : Timed) : Type 0 where
  pub mid : SessionValue
  pub read : IsRead moments start passes taken left old (timed new.told mid)
  pub emits : PutsEach start passes (emitted_at_end mid.gathered) mid.pass new.session.pass
  pub counts : new.session.counts ≡ mid.counts

-- Or the first of it, and there was no memory for more.
pub record EmitsShort (moments : ℕ → Type 0) (start : State) (passes : ℕ) (taken : List ℕ) (left : Option (List ℕ)) (old new : Timed) : Type 0 where
  pub mid : SessionValue
  pub read : IsRead moments start passes taken left old (timed new.told mid)
  pub put : SessionValue
  pub emits : PutsFront start passes (emitted_at_end mid.gathered) mid put
  pub idles : Idles start passes put new.session

-- Or the first of it, and the pass has no room for the next.
pub record EmitsFront (moments : ℕ → Type 0) (start : State) (passes : ℕ) (taken : List ℕ) (left : Option (List ℕ)) (old new : Timed) : Type 0 where
  pub mid : SessionValue
  pub read : IsRead moments start passes taken left old (timed new.told mid)
  pub emits : PutsFront start passes (emitted_at_end mid.gathered) mid new.session
  pub some : emits.others ≢ []

-- What stands at each end of a link, of which the bytes `taken` were read. Where it was read to its end, all its lines are handled, and what the rules have
-- open then is put. Where a read failed or the limit was met, all lines of what was taken are handled, and what is open is dropped; so too where memory
-- ran out between two reads, of what was taken before the last one. Else those before a line, at which memory ran out or the pass was spent, or all and
-- the first of what is open. A pass that is spent from the start takes nothing.
abbrev pub EndsAs : (ℕ → Type 0) → State → ℕ → LineCause → List ℕ → Option (List ℕ) → Timed → Timed → Type 0
EndsAs moments start passes cause.Closed taken left old new = EmitsAll moments start passes taken left old new
EndsAs moments start passes cause.ReadFault taken left old new = HandlesWhole moments start passes taken old new × (length taken < 2 ^ 40)
EndsAs moments start passes cause.LinkLimit taken left old new = HandlesWhole moments start passes taken old new × (length taken ≡ 2 ^ 40)
EndsAs moments start passes cause.Spent taken left old new =
    (TakesNone taken old new ⊎ (RunsFull moments start passes taken old new ⊎ EmitsFront moments start passes taken left old new)) × IsSpent new.session.pass
EndsAs moments start passes cause.NoMemory taken left old new =
    ((front : List ℕ) × (RunsOut front taken × HandlesWhole moments start passes front old new))
    ⊎ (RunsShort moments start passes taken old new ⊎ EmitsShort moments start passes taken left old new)

-- What the service of a link came to, its pass, its counts, and all moments for which the clock was read. It ends for a spent pass exactly where the pass has
-- no room at the start, before a line, or before a point that the rules emit.
pub record Ends (moments : ℕ → Type 0) (start : State) (passes : ℕ) (reason : LineCause) (left left' : Option (List ℕ)) (old : Timed) (told : List ℕ) (pass : PassValue) (counts : Counts) : Type 0 where
  pub taken : List ℕ
  pub consumed : Consumes left left' taken
  pub room : reason ≢ cause.Spent → HasRoom old.session.pass
  pub gathered : AggregatorValue
  pub ends : EndsAs moments start passes reason taken left' old (timed told (record { pass = pass; counts = counts; gathered = gathered }))

-- nothing was written to a link, and no write to it failed
pub record WritesNone {K : Type 0} (k : Ghosts K) (old new : K) : Type 0 where
  pub written : k.written new ≡ k.written old
  pub faults : k.write_faults new ≡ k.write_faults old

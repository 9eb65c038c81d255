-- What the puts of points that rules emit make of a pass and of a link.
use Rattle.std.specs.Prelude.{◌≡◌, ◌≢◌, ◌⊎◌, ◌<◌, ◌≤◌, ◌+◌, ◌^◌, ℕ, List, [], ◌++◌, Option, length, map, take}
use Rattle.std.specs.Io.KnownBytes.{Consumes}
use Rattle.line_service.specs.Service.{RunsOut}
use Rattle.line_service.specs.declared.ends.Stop.{Stop}
use Rattle.line_service.specs.declared.ends.Stop.TheVariants as stop
use Rattle.metric_line.specs.declared.datum.Datum.{Datum}
use Rattle.metric_line.specs.Point.{Point}
use Rattle.metric_line.specs.Seen.{seen}
use Rattle.carbon_model.specs.State.{State}
use Rattle.shared_history.specs.Parts.{PassValue, own_entries}
use Rattle.shared_store.specs.Passes.{Enters, HasRoom}
use Rattle.line_front.specs.Points.{PutsEach, emitted_for, gathered_with}
use Rattle.line_front.specs.Links.{HandlesWhole, IsRead, IsSpent, Puts, RunsFull, RunsShort, SessionValue, TakesNone, Timed}
use Rattle.line_front.specs.Sessions.{PutsNone}
use Rattle.line_front.specs.declared.ends.LineCause.{LineCause}
use Rattle.line_front.specs.declared.ends.LineCause.TheVariants as cause

-- ---- points that are put

-- a point was not put: the pass has no room for it, or there was no memory
abbrev pub StopsPut : State → ℕ → Stop → PassValue → PassValue → Type 0
StopsPut start passes stop.WriteFault old new = ⊥
StopsPut start passes (stop.DiskFault class) old new = ⊥
StopsPut start passes stop.Spent old new = (new ≡ old) × IsSpent new
StopsPut start passes stop.NoMemory old new = (new ≡ old) ⊎ Enters start passes [] old new

-- of some points the first were put, and then no more
pub record PutsFew (start : State) (passes : ℕ) (points : List Point) (reason : Stop) (old new : PassValue) : Type 0 where
  pub first : List Point
  pub others : List Point
  pub split : points ≡ first ++ others
  pub mid : PassValue
  pub emits : PutsEach start passes first old mid
  pub some : reason ≡ stop.Spent → others ≢ []
  pub stops : StopsPut start passes reason mid new

-- the pass has room for so many points and the entries of a call
abbrev pub HasCallRoom : ℕ → PassValue → Type 0
HasCallRoom count pass = length (own_entries pass) + (count + 4) ≤ 2 ^ 48

-- some at the front were put
pub record PutsPart (start : State) (passes : ℕ) (points : List Datum) (count : ℕ) (old new : PassValue) : Type 0 where
  pub some : 0 < count
  pub few : count ≤ length points
  pub puts : PutsEach start passes (map seen (take count points)) old new

-- ---- behind a point

-- a point was given to the rules, and those that they emit for it were put
pub record Gathers (start : State) (passes : ℕ) (point : Point) (old new : SessionValue) : Type 0 where
  pub emits : PutsEach start passes (emitted_for old.gathered point) old.pass new.pass
  pub counts : new.counts ≡ old.counts
  pub gathered : new.gathered ≡ gathered_with old.gathered point

-- or the first of them
pub record GathersFew (start : State) (passes : ℕ) (point : Point) (reason : Stop) (old new : SessionValue) : Type 0 where
  pub few : PutsFew start passes (emitted_for old.gathered point) reason old.pass new.pass
  pub counts : new.counts ≡ old.counts

-- a point was put, but not all that the rules emit for it
pub record BringsFew (start : State) (passes : ℕ) (point : Point) (reason : Stop) (old new : SessionValue) : Type 0 where
  pub put : SessionValue
  pub puts : Puts start passes point old put
  pub gathers : GathersFew start passes point reason put new

-- the same, or it was not put
abbrev pub StopsBring : State → ℕ → Point → Stop → SessionValue → SessionValue → Type 0
StopsBring start passes point reason old new = PutsNone start passes reason old new ⊎ BringsFew start passes point reason old new

-- ---- at the end of a link

-- what stands at each end of a link, before what its rules have open is put
abbrev pub LinesEndAs : (ℕ → Type 0) → State → ℕ → LineCause → List ℕ → Option (List ℕ) → Timed → Timed → Type 0
LinesEndAs moments start passes cause.Closed taken left old new = IsRead moments start passes taken left old new
LinesEndAs moments start passes cause.ReadFault taken left old new = HandlesWhole moments start passes taken old new × (length taken < 2 ^ 40)
LinesEndAs moments start passes cause.LinkLimit taken left old new = HandlesWhole moments start passes taken old new × (length taken ≡ 2 ^ 40)
LinesEndAs moments start passes cause.Spent taken left old new =
    (TakesNone taken old new ⊎ RunsFull moments start passes taken old new) × IsSpent new.session.pass
LinesEndAs moments start passes cause.NoMemory taken left old new =
    ((front : List ℕ) × (RunsOut front taken × HandlesWhole moments start passes front old new)) ⊎ RunsShort moments start passes taken old new

-- what the lines of a link came to
pub record EndsLines (moments : ℕ → Type 0) (start : State) (passes : ℕ) (reason : LineCause) (left left' : Option (List ℕ)) (old new : Timed) : Type 0 where
  pub taken : List ℕ
  pub consumed : Consumes left left' taken
  pub room : reason ≢ cause.Spent → HasRoom old.session.pass
  pub ends : LinesEndAs moments start passes reason taken left' old new

-- how a link ends that was read to its end, and at that end has these points to put
abbrev pub ClosesAs : State → ℕ → LineCause → List Point → PassValue → PassValue → Type 0
ClosesAs start passes cause.Closed points old new = PutsEach start passes points old new
ClosesAs start passes cause.ReadFault points old new = ⊥
ClosesAs start passes cause.LinkLimit points old new = ⊥
ClosesAs start passes cause.Spent points old new = PutsFew start passes points stop.Spent old new
ClosesAs start passes cause.NoMemory points old new = PutsFew start passes points stop.NoMemory old new

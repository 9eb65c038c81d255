-- What each pass of a server made of its history.
use Rattle.std.specs.Prelude.{◌≡◌, ◌<◌, ◌≤◌, ◌+◌, ◌^◌, ℕ, Bool, true, false, List, [], ◌++◌, length, Option}
use mathlib.Core.List.{IsPrefix}
use Rattle.outside_io.specs.Image.{Image}
use Rattle.outside_io.specs.declared.source.Source.{Ghosts as SourceGhosts}
use Rattle.outside_io.specs.declared.sink.Sink.{Ghosts as SinkGhosts}
use Rattle.outside_io.specs.declared.clock.Clock.{Ghosts as ClockGhosts}
use Rattle.atomic_table.specs.Seated.{TableId}
use Rattle.aggregate_rules.specs.RuleTexts.{RuleValue}
use Rattle.carbon_history.specs.declared.entry.Entry.{Entry}
use Rattle.carbon_history.specs.Entries.{of_pass}
use Rattle.carbon_model.specs.State.{State}
use Rattle.shared_history.specs.Parts.{IsNewPass, PassValue, own_entries}
use Rattle.shared_store.specs.declared.drain_end.DrainEnd.{DrainEnd}
use Rattle.http_front.specs.Origin.{Origin}
use Rattle.carbon_serve.specs.Crews.{Finishes, role_of}
use Rattle.carbon_serve.specs.Deeds.{Did, Telling, telling}
use Rattle.carbon_serve.specs.declared.crew.Duties.{Duties}

-- Who serves: the moments that their clock may tell, what links tell of themselves, with the rules that gather their points, the duties of the workers, and
-- how many passes there are, the crew's own as the last.
pub record Staff (L : Type 0) : Type 1 where
  pub moments : ℕ → Type 0
  pub links : Telling L
  pub duties : Duties
  pub passes : ℕ

abbrev pub staff_of : {C L : Type 0} → ClockGhosts C → SourceGhosts L → SinkGhosts L → C → List RuleValue → Duties → ℕ → Staff L
staff_of clocks source sink clock rules duties passes =
    record { moments = clocks.moments clock; links = telling source sink rules; duties = duties; passes = passes }

-- what they serve from, over disks that had told these images and from a state
abbrev pub origin_by : {L : Type 0} → Staff L → (ℕ → Option Image) → State → Origin
origin_by staff told start = record { moments = staff.moments; told = told; start = start; passes = staff.passes }

-- What the worker whose pass has this number made of the history: the pass had seen nothing, did what the number says, link by link, and what it has
-- seen then begins the history, in which it has no other entry.
pub record CourseOf {L : Type 0} (links : Telling L) (w : Origin) (duties : Duties) (number : ℕ) (history : List Entry) : Type 0 where
  pub table : TableId
  pub fresh : PassValue
  pub pass : PassValue
  pub new : IsNewPass table number fresh
  pub same : pass.number ≡ number
  pub begins : IsPrefix pass.seen history
  pub own : own_entries pass ≡ of_pass number history
  pub did : Did links w (role_of number duties) fresh pass

-- each of the workers' passes has room for what a call enters; that of the crew itself is the last
abbrev pub WorkersHaveRoom : ℕ → List Entry → Type 0
WorkersHaveRoom passes history = (pass : ℕ) → pass + 1 < passes → length (of_pass pass history) + 4 ≤ 2 ^ 48

-- one of them has not, or all have
abbrev pub TellsSpent : ℕ → List Entry → Bool → Type 0
TellsSpent passes history true = (pass : ℕ) × ((pass + 1 < passes) × (2 ^ 48 < length (of_pass pass history) + 4))
TellsSpent passes history false = WorkersHaveRoom passes history

-- What the last pass, the crew's own, made of it: nothing, until it had seen all that the others made; and behind that the drain at the end, unless one
-- of the others was spent.
pub record LastCourse (w : Origin) (end : DrainEnd) (history : List Entry) : Type 0 where
  pub before : PassValue
  pub after : PassValue
  pub last : after.number + 1 ≡ w.passes
  pub none : own_entries before ≡ []
  pub others : (number : ℕ) → number + 1 < w.passes → of_pass number before.seen ≡ of_pass number history
  pub is_spent : Bool
  pub spent : TellsSpent w.passes history is_spent
  pub finishes : Finishes w.moments w.start w.passes is_spent end before after
  pub whole : history ≡ after.seen
  pub alone : history ≡ before.seen ++ own_entries after

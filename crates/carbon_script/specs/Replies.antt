-- What commands say, or why they say nothing.
use Rattle.std.specs.Prelude.{◌≡◌, ◌≢◌, ◌⊎◌, ◌<◌, ◌^◌, ◌+◌, ℕ, List, [], Option, Result, Ok, Err, length, count_by}
use Rattle.std.specs.Io.KnownBytes.{Appends}
use Rattle.outside_io.specs.Image.{Image}
use Rattle.outside_io.specs.Sink.{AppendsFront}
use Rattle.line_service.specs.declared.ends.Stop.{Stop}
use Rattle.line_service.specs.declared.ends.Stop.TheVariants as stop
use Rattle.carbon_history.specs.declared.entry.PutEnd.{PutEnd}
use Rattle.carbon_history.specs.Entries.{is_drain}
use Rattle.carbon_model.specs.State.{State}
use Rattle.shared_history.specs.Parts.{PassValue, own_entries}
use Rattle.shared_store.specs.Passes.{HasRoom}
use Rattle.carbon_script.specs.Alone.{Adds}
use Rattle.render_plan.specs.declared.fault.QueryFault.{QueryFault}
use Rattle.render_plan.specs.declared.fault.QueryFault.TheVariants as query
use Rattle.render_plan.specs.Planned.{Plan as QueryPlan}
use Rattle.render_plan.specs.Values.{Rows}
use Rattle.render_answer.specs.Answer.{AnswersRows}
use Rattle.render_answer.specs.declared.answer.Answer.{Answer}
use Rattle.render_answer.specs.declared.refusal.Refusal.TheVariants as refusal
use Rattle.shared_store.specs.declared.ask_fault.AskFault.{AskFault}
use Rattle.shared_store.specs.declared.ask_fault.AskFault.TheVariants as ask
use Rattle.carbon_script.specs.Command.{Command}
use Rattle.carbon_script.specs.Counts.{counted}
use Rattle.carbon_script.specs.Script.{Asked, Does, DrainsFault, DrainsOut, DrainsPart, Machine}
use Rattle.carbon_script.specs.Sessions.{AsksPart, IsSpent, Means, RunsShort, SessionValue, StopsSpent}
use Rattle.carbon_script.specs.Texts.{answer_reply, drain_fault_text, drained_text, fault_reply, plan_fault_text, plan_idle, plan_text, refused_reply, summary_of, write_fault_text, write_finished, write_nothing, write_run}
use Rattle.carbon_script.specs.declared.reply.Shortage.{Shortage}
use Rattle.carbon_script.specs.declared.reply.Shortage.TheVariants as short
use Rattle.carbon_script.specs.declared.round.Begun.{Begun}
use Rattle.carbon_script.specs.declared.round.Begun.TheVariants as begun
use Rattle.carbon_script.specs.declared.round.NextRun.{NextRun}
use Rattle.carbon_script.specs.declared.round.NextRun.TheVariants as run
use Rattle.shared_store.specs.declared.drain_end.DrainEnd.{DrainEnd}
use Rattle.shared_store.specs.declared.drain_end.DrainEnd.TheVariants as drain

-- ---- texts

-- this text, unless memory ran out for it
abbrev pub Tells : Result (List ℕ) Shortage → List ℕ → Type 0
Tells (Ok text) said = text ≡ said
Tells (Err short.Room) said = ⊥
Tells (Err short.Memory) said = Unit {0}

-- no text, for this want
abbrev pub Lacks : Shortage → Result (List ℕ) Shortage → Type 0
Lacks why (Ok text) = ⊥
Lacks short.Room (Err short.Room) = Unit {0}
Lacks short.Room (Err short.Memory) = ⊥
Lacks short.Memory (Err short.Room) = ⊥
Lacks short.Memory (Err short.Memory) = Unit {0}

-- whether the pass has room for what a call may enter
abbrev pub TellsRoom : {T : Type 0} → Result T Shortage → PassValue → Type 0
TellsRoom (Ok u) pass = HasRoom pass
TellsRoom (Err short.Room) pass = 2 ^ 48 < length (own_entries pass) + 4
TellsRoom (Err short.Memory) pass = ⊥

-- the reply to a round of plans
abbrev pub SaysBegun : Begun → Result (List ℕ) Shortage → Type 0
SaysBegun (begun.Metric path) reply = Tells reply (plan_text path)
SaysBegun (begun.DiskFault class) reply = Tells reply (plan_fault_text class)
SaysBegun begun.Nothing reply = Tells reply plan_idle
SaysBegun begun.NoMemory reply = Lacks short.Memory reply

-- to a round of writes
abbrev pub SaysRun : NextRun → Result (List ℕ) Shortage → Type 0
SaysRun run.Written reply = Tells reply write_run
SaysRun run.Finished reply = Tells reply write_finished
SaysRun (run.DiskFault class) reply = Tells reply (write_fault_text class)
SaysRun run.Nothing reply = Tells reply write_nothing

-- to a drain of all
abbrev pub SaysDrained : DrainEnd → Result (List ℕ) Shortage → Type 0
SaysDrained (drain.Done count) reply = Tells reply (drained_text count)
SaysDrained (drain.DiskFault class) reply = Tells reply (drain_fault_text class)
SaysDrained drain.Spent reply = Lacks short.Room reply
SaysDrained drain.NoMemory reply = Lacks short.Memory reply

-- to a query that cannot be read
abbrev pub SaysUnread : QueryFault → Result (List ℕ) Shortage → Type 0
SaysUnread fault (Ok text) = (fault ≢ query.NoMemory) × (text ≡ refused_reply (refusal.Query fault))
SaysUnread fault (Err short.Room) = ⊥
SaysUnread fault (Err short.Memory) = Unit {0}

-- the reply that is made of rows
abbrev pub SaysRows : QueryPlan → Rows → Result (List ℕ) Shortage → Type 0
SaysRows plan rows (Ok text) = (answer : Answer) × (AnswersRows plan rows answer × (text ≡ answer_reply answer))
SaysRows plan rows (Err short.Room) = ⊥
SaysRows plan rows (Err short.Memory) = Unit {0}

-- to a query that was asked
abbrev pub SaysFound : QueryPlan → Result Rows AskFault → Result (List ℕ) Shortage → Type 0
SaysFound plan (Ok rows) reply = SaysRows plan rows reply
SaysFound plan (Err (ask.TooManySeries count)) reply = Tells reply (refused_reply (refusal.TooManySeries count))
SaysFound plan (Err (ask.TooManyPoints count)) reply = Tells reply (refused_reply (refusal.TooManyPoints count))
SaysFound plan (Err (ask.DiskFault class)) reply = Tells reply (fault_reply class)
SaysFound plan (Err ask.NoMemory) reply = Lacks short.Memory reply

-- a text was written, or no more than a front of it
abbrev pub SaysText : {T : Type 0} → List ℕ → Result T Stop → Option (List ℕ) → Option (List ℕ) → Type 0
SaysText text (Ok u) before after = Appends before after text
SaysText text (Err reason) before after = (reason ≡ stop.WriteFault) × AppendsFront before after text

-- the same of a reply, unless there is none
abbrev pub Says : {T : Type 0} → Result (List ℕ) Shortage → Result T Stop → Option (List ℕ) → Option (List ℕ) → Type 0
Says (Ok text) result before after = SaysText text result before after
Says (Err why) (Ok u) before after = ⊥
Says (Err short.Room) (Err reason) before after = (reason ≡ stop.Spent) × (after ≡ before)
Says (Err short.Memory) (Err reason) before after = (reason ≡ stop.NoMemory) × (after ≡ before)

-- ---- what the machine does

-- the machine may do this at a command and say that, and the code stands for the machine after it
pub record Did (told : ℕ → Option Image) (start : State) (machine : Machine) (command : Command) (said : List ℕ) (new : SessionValue) : Type 0 where
  pub next : Machine
  pub does : Does told machine command next said
  pub means : Means start new next

-- whatever machine the code stood for, it did what a command says, and this is the reply
abbrev pub Replies : (ℕ → Option Image) → State → Command → Result (List ℕ) Shortage → SessionValue → SessionValue → Type 0
Replies told start command (Ok said) old new = (machine : Machine) → Means start old machine → Did told start machine command said new
Replies told start command (Err short.Room) old new =
    (machine : Machine) → Means start old machine → (next : Machine) × (StopsSpent machine command next × (IsSpent next × Means start new next))
Replies told start command (Err short.Memory) old new =
    (machine : Machine) → Means start old machine → (next : Machine) × (RunsShort told machine command next × Means start new next)

-- The same of a query that was read: it was asked, and this is the reply.
abbrev pub RepliesTo : (ℕ → Option Image) → State → QueryPlan → Result (List ℕ) Shortage → SessionValue → SessionValue → Type 0
RepliesTo told start plan (Ok said) old new =
    (machine : Machine) → Means start old machine → (next : Machine) × (Asked told machine (Ok plan) next said × Means start new next)
RepliesTo told start plan (Err short.Room) old new =
    (machine : Machine) → Means start old machine → IsSpent machine × Means start new machine
RepliesTo told start plan (Err short.Memory) old new =
    (machine : Machine) → Means start old machine
    → (next : Machine) × ((AsksPart machine next ⊎ ((said : List ℕ) × Asked told machine (Ok plan) next said)) × Means start new next)

-- the code once a point that was put so is counted
abbrev pub counting : SessionValue → PutEnd → SessionValue
counting code end = record code { counts = counted code.counts end }

-- Whatever machine the code stood for, all that was pending of it was drained, and the pass has still room; or as much as is said was.
abbrev pub DrainsAlone : State → DrainEnd → SessionValue → SessionValue → Type 0
DrainsAlone start (drain.Done count) old new =
    HasRoom new.pass × ((machine : Machine) → Means start old machine → (next : Machine) × (DrainsOut machine count next × Means start new next))
DrainsAlone start (drain.DiskFault class) old new =
    (machine : Machine) → Means start old machine → (next : Machine) × (DrainsFault machine class next × Means start new next)
DrainsAlone start drain.Spent old new =
    (machine : Machine) → Means start old machine → (next : Machine) × (DrainsPart machine next × (IsSpent next × Means start new next))
DrainsAlone start drain.NoMemory old new =
    (machine : Machine) → Means start old machine → (next : Machine) × (DrainsPart machine next × Means start new next)

-- The summary of the code's counts and of all drains that its pass sees. Nothing else changes.
pub record Summarises (start : State) (reply : Result (List ℕ) Shortage) (old new : SessionValue) : Type 0 where
  pub sees : Adds start [] old.pass new.pass
  pub clock : new.clock ≡ old.clock
  pub counts : new.counts ≡ old.counts
  pub tells : Tells reply (summary_of old.counts (count_by is_drain new.pass.seen))

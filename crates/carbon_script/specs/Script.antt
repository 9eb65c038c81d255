-- The run of a script: what a carbon on one thread does with lines and commands.
use Rattle.std.specs.Prelude.{◌≡◌, ◌≢◌, ◌↔◌, ◌⊎◌, ◌≤◌, ◌<◌, ◌*◌, ℕ, ◌+◌, Bool, true, false, List, [], ◌∷◌, ◌++◌, Option, Result, Ok, Err, length, count_by}
use Rattle.outside_io.specs.Image.{Image}
use Rattle.line_frame.specs.Lines.{Line, lines}
use Rattle.line_frame.specs.Machine.{Runs}
use Rattle.metric_path.specs.Class.{class_of}
use Rattle.metric_line.specs.Point.{Point}
use Rattle.carbon_history.specs.declared.entry.Entry.{Entry}
use Rattle.carbon_history.specs.declared.entry.Entry.TheVariants as entry
use Rattle.carbon_history.specs.declared.entry.PutEnd.{PutEnd}
use Rattle.carbon_history.specs.Entries.{about_class, drains, is_drain}
use Rattle.carbon_model.specs.State.{State}
use Rattle.carbon_model.specs.Replay.{DrainsAll, DrainsUpTo, IsLegal, replay}
use Rattle.render_plan.specs.declared.fault.QueryFault.{QueryFault}
use Rattle.render_plan.specs.Needed.{needs_of}
use Rattle.render_plan.specs.Planned.{Plan as QueryPlan, read_plan}
use Rattle.render_answer.specs.Answer.{AnswersPlan}
use Rattle.render_answer.specs.Rows.{IsReadFor}
use Rattle.render_answer.specs.declared.answer.Answer.{Answer}
use Rattle.render_answer.specs.declared.refusal.Refusal.TheVariants as refusal
use Rattle.shared_history.specs.Parts.{greatest_ask}
use Rattle.shared_store.specs.Asks.{tries_of}
use Rattle.shared_store.specs.Drains.{EndsUnwritten}
use Rattle.shared_store.specs.Steps.{NeedsNoWrite}
use Rattle.carbon_script.specs.Command.{Command, Metric, Refused, Long, Clock, Ask, Plan, Write, DrainAll, Bad, command_of}
use Rattle.carbon_script.specs.Counts.{no_counts, counted, refused, overlong}
use Rattle.carbon_script.specs.declared.counts.Counts.{Counts}
use Rattle.carbon_script.specs.Texts.{answer_reply, drained_text, drain_fault_text, fault_reply, plan_text, plan_fault_text, refused_reply, write_fault_text, bad_command, plan_idle, write_run, write_finished, write_nothing, summary_of}

-- Where a script stands: the state, its clock, which classes owe the rest of a drain that was begun, how many runs of each class it told of, its
-- counts, and the entries that it made.
pub record Machine : Type 0 where
  pub state : State
  pub clock : ℕ
  pub owes : ℕ → Bool
  pub runs : ℕ → ℕ
  pub counts : Counts
  pub entries : List Entry

-- the clock of a script before it is set: 2023-11-14 22:13:20 UTC
abbrev pub first_clock : ℕ
first_clock = 1700000000

-- where a script begins in a state
abbrev pub opening : State → Machine
opening state = record { state = state; clock = first_clock; owes = λ class. false; runs = λ class. 0; counts = no_counts; entries = [] }

-- the machine after more entries, which change its state
abbrev pub with_entries : Machine → List Entry → Machine
with_entries m entries = record m { state = replay m.state entries; entries = m.entries ++ entries }

-- the entries of a point that is put, of the drain of a metric and of a failed disk, and those of the next question after so many tries
abbrev pub put_entry : Point → PutEnd → Entry
put_entry point end = entry.Put 0 point.path point.time point.value end

abbrev pub drain_entry : Machine → List ℕ → Entry
drain_entry m path = entry.Drain 0 path m.clock

abbrev pub fault_entry : ℕ → Entry
fault_entry class = entry.Fault 0 class

abbrev pub ask_entries : Machine → ℕ → List Entry
ask_entries m tries = tries_of 0 (greatest_ask m.entries + 1) m.clock tries

-- ---- debts

-- Debts may be found to have ended: no class owes that did not.
abbrev pub Eased : (ℕ → Bool) → (ℕ → Bool) → Type 0
Eased before after = (class : ℕ) → after class ≡ true → before class ≡ true

-- this class owes or not, and every other one as before
pub record OwesAt (class : ℕ) (owed : Bool) (before after : ℕ → Bool) : Type 0 where
  pub here : after class ≡ owed
  pub others : (k : ℕ) → k ≢ class → after k ≡ before k

-- the class owes nothing, and something of it is pending
pub record MayPlan (s : State) (owes : ℕ → Bool) (class : ℕ) : Type 0 where
  pub free : owes class ≡ false
  pub some : s.pending class ≢ []

-- the least class of which a metric may be drained
pub record IsNextPlan (s : State) (owes : ℕ → Bool) (class : ℕ) : Type 0 where
  pub within : class < 16
  pub may : MayPlan s owes class
  pub least : (k : ℕ) → k < class → MayPlan s owes k → ⊥

-- the least class that owes
pub record IsNextWrite (owes : ℕ → Bool) (class : ℕ) : Type 0 where
  pub within : class < 16
  pub owed : owes class ≡ true
  pub least : (k : ℕ) → k < class → owes k ≡ false

-- ---- the beginning of a drain

-- The next metric is drained. Its class then owes, unless there is nothing to write: something is kept of the metric in
-- version 2, and none of its points has a home.
pub record PlansMetric (m : Machine) (next : Machine) (said : List ℕ) : Type 0 where
  pub eased : ℕ → Bool
  pub eases : Eased m.owes eased
  pub class : ℕ
  pub chosen : IsNextPlan m.state eased class
  pub path : List ℕ
  pub here : class_of path ≡ class
  pub legal : IsLegal m.state (drain_entry m path)
  pub owed : Bool
  pub unless : (owed ≡ false) ↔ NeedsNoWrite m.state path m.clock
  pub debts : OwesAt class owed eased next.owes
  pub becomes : next ≡ record (with_entries m (drain_entry m path ∷ [])) { owes = next.owes }
  pub says : said ≡ plan_text path

-- the disk of its class fails
pub record PlansFault (m : Machine) (next : Machine) (said : List ℕ) : Type 0 where
  pub class : ℕ
  pub eases : Eased m.owes next.owes
  pub chosen : IsNextPlan m.state next.owes class
  pub becomes : next ≡ record (with_entries m (fault_entry class ∷ [])) { owes = next.owes }
  pub says : said ≡ plan_fault_text class

-- no metric may be drained
pub record PlansNone (m : Machine) (next : Machine) (said : List ℕ) : Type 0 where
  pub eases : Eased m.owes next.owes
  pub none : (class : ℕ) → class < 16 → MayPlan m.state next.owes class → ⊥
  pub becomes : next ≡ record m { owes = next.owes }
  pub says : said ≡ plan_idle

-- ---- the write of a run

-- one run more of a class
pub record RunsOneMore (class : ℕ) (entries : List Entry) (before after : ℕ → ℕ) : Type 0 where
  pub here : after class ≡ before class + 1
  pub most : after class ≤ 5000000 * drains (about_class class entries)
  pub others : (k : ℕ) → k ≢ class → after k ≡ before k

-- A run of the least class that owes is written, the last one or not. All runs of a class that are told of are at most 5,000,000 for each drain.
pub record WritesRun (m : Machine) (owed : Bool) (next : Machine) : Type 0 where
  pub eased : ℕ → Bool
  pub eases : Eased m.owes eased
  pub class : ℕ
  pub chosen : IsNextWrite eased class
  pub debts : OwesAt class owed eased next.owes
  pub more : RunsOneMore class m.entries m.runs next.runs
  pub becomes : next ≡ record m { owes = next.owes; runs = next.runs }

-- the disk of its class fails
pub record WritesFault (m : Machine) (next : Machine) (said : List ℕ) : Type 0 where
  pub class : ℕ
  pub eases : Eased m.owes next.owes
  pub chosen : IsNextWrite next.owes class
  pub becomes : next ≡ record (with_entries m (fault_entry class ∷ [])) { owes = next.owes }
  pub says : said ≡ write_fault_text class

-- no class owes
pub record WritesNone (m : Machine) (next : Machine) (said : List ℕ) : Type 0 where
  pub eases : Eased m.owes next.owes
  pub none : (class : ℕ) → class < 16 → next.owes class ≡ false
  pub becomes : next ≡ record m { owes = next.owes }
  pub says : said ≡ write_nothing

-- ---- the drain of all

-- Class by class its debt ends and all that is pending of it is drained, each metric as its class picks it.
pub record DrainsOut (m : Machine) (count : ℕ) (next : Machine) : Type 0 where
  pub made : List Entry
  pub all : DrainsAll m.state 0 m.clock made
  pub counted : length made ≡ count
  pub none : (class : ℕ) → class < 16 → next.owes class ≡ false
  pub becomes : next ≡ record (with_entries m made) { owes = next.owes }

-- The disk of a class failed after these drains: in a plan, and then something of the class was pending and it owes nothing; or in a run, and then it
-- owes: from before, where none of them is of the class, or by the last of them, which is of the class and had something to write.
abbrev pub FailsIn : Machine → ℕ → List Entry → Bool → Type 0
FailsIn m class made false = (replay m.state made).pending class ≢ []
FailsIn m class made true = ((m.owes class ≡ true) × (about_class class made ≡ [])) ⊎ EndsUnwritten m.state class made

-- It stops at a class whose disk fails; those before it owe nothing.
pub record DrainsFault (m : Machine) (class : ℕ) (next : Machine) : Type 0 where
  pub within : class < 16
  pub made : List Entry
  pub up_to : DrainsUpTo m.state 0 class m.clock made
  pub none : (k : ℕ) → k < class → next.owes k ≡ false
  pub later : (k : ℕ) → class < k → next.owes k ≡ true → m.owes k ≡ true
  pub stops : FailsIn m class made (next.owes class)
  pub becomes : next ≡ record (with_entries m (made ++ fault_entry class ∷ [])) { owes = next.owes }

-- It stops at some class, for want of memory or of room for entries.
pub record DrainsPart (m : Machine) (next : Machine) : Type 0 where
  pub class : ℕ
  pub within : class ≤ 16
  pub made : List Entry
  pub up_to : DrainsUpTo m.state 0 class m.clock made
  pub owed : (k : ℕ) → class < k → next.owes k ≡ true → m.owes k ≡ true
  pub becomes : next ≡ record (with_entries m made) { owes = next.owes }

-- ---- questions

-- The query is one entry, and answered as the state answers it.
pub record AsksQuery (told : ℕ → Option Image) (m : Machine) (plan : QueryPlan) (next : Machine) (said : List ℕ) : Type 0 where
  pub answer : Answer
  pub answers : AnswersPlan told m.state m.clock plan answer
  pub becomes : next ≡ with_entries m (ask_entries m 1)
  pub says : said ≡ answer_reply answer

-- The disk of a class fails that has a metric which is read for the query.
pub record AsksFault (m : Machine) (plan : QueryPlan) (next : Machine) (said : List ℕ) : Type 0 where
  pub path : List ℕ
  pub read : IsReadFor m.state m.clock (needs_of plan) path
  pub becomes : next ≡ with_entries m (ask_entries m 1 ++ fault_entry (class_of path) ∷ [])
  pub says : said ≡ fault_reply (class_of path)

-- A query that cannot be read is refused, and is no entry.
abbrev pub Asked : (ℕ → Option Image) → Machine → Result QueryPlan QueryFault → Machine → List ℕ → Type 0
Asked told m (Ok plan) next said = AsksQuery told m plan next said ⊎ AsksFault m plan next said
Asked told m (Err fault) next said = (next ≡ m) × (said ≡ refused_reply (refusal.Query fault))

-- ---- the steps

-- a point is put as the history allows, and counted by what became of it
pub record Puts (m : Machine) (point : Point) (next : Machine) : Type 0 where
  pub end : PutEnd
  pub legal : IsLegal m.state (put_entry point end)
  pub becomes : next ≡ record (with_entries m (put_entry point end ∷ [])) { counts = counted m.counts end }

-- What a script over disks that told these images at the opening may do at a command, and what it writes. A line that is refused or too long is counted.
abbrev pub Does : (ℕ → Option Image) → Machine → Command → Machine → List ℕ → Type 0
Does told m (Metric point) next said = Puts m point next × (said ≡ [])
Does told m (Refused fault) next said = (next ≡ record m { counts = refused m.counts fault }) × (said ≡ [])
Does told m Long next said = (next ≡ record m { counts = overlong m.counts }) × (said ≡ [])
Does told m (Clock t) next said = (next ≡ record m { clock = t }) × (said ≡ [])
Does told m (Ask query) next said = Asked told m (read_plan query [] m.clock) next said
Does told m Plan next said = PlansMetric m next said ⊎ (PlansFault m next said ⊎ PlansNone m next said)
Does told m Write next said =
    (WritesRun m true next × (said ≡ write_run))
    ⊎ ((WritesRun m false next × (said ≡ write_finished)) ⊎ (WritesFault m next said ⊎ WritesNone m next said))
Does told m DrainAll next said =
    ((count : ℕ) × (DrainsOut m count next × (said ≡ drained_text count)))
    ⊎ ((class : ℕ) × (DrainsFault m class next × (said ≡ drain_fault_text class)))
Does told m Bad next said = (next ≡ m) × (said ≡ bad_command)

abbrev pub Steps : (ℕ → Option Image) → Machine → Line → Machine → List ℕ → Type 0
Steps told m line next said = Does told m (command_of line m.clock) next said

-- the last line of a script
abbrev pub summary_text : Machine → List ℕ
summary_text m = summary_of m.counts (count_by is_drain m.entries)

-- ---- the whole run

-- From `start` the script of these bytes comes to the machine `end`, and writes this text: that of its lines in order, and, once all that is
-- still pending was drained, the summary.
pub record ScriptRun (told : ℕ → Option Image) (start : Machine) (input : List ℕ) (end : Machine) (text : List ℕ) : Type 0 where
  pub last : Machine
  pub said : List ℕ
  pub served : Runs (Steps told) start (lines input) last said
  pub count : ℕ
  pub drained : DrainsOut last count end
  pub whole : text ≡ said ++ summary_text end

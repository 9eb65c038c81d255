-- How the code of a script is tied to the machine of the definitions.
use Rattle.std.specs.Prelude.{◌≡◌, ◌⊎◌, ◌≤◌, ◌<◌, ◌+◌, ◌^◌, ℕ, false, List, ◌∷◌, ◌++◌, Option, Result, Ok, Err, length}
use Rattle.std.specs.Io.KnownBytes.{Appends, Consumes, IsAtEnd}
use Rattle.outside_io.specs.Image.{Image}
use Rattle.outside_io.specs.Sink.{AppendsFront}
use Rattle.line_frame.specs.Lines.{Line, lines}
use Rattle.line_frame.specs.Machine.{Runs}
use Rattle.line_service.specs.declared.ends.Stop.{Stop}
use Rattle.line_service.specs.declared.ends.Stop.TheVariants as stop
use Rattle.line_service.specs.Service.{RunsOut}
use Rattle.carbon_history.specs.Entries.{NamesPasses, about_class, drains}
use Rattle.carbon_model.specs.State.{State}
use Rattle.carbon_model.specs.Replay.{replay}
use Rattle.shared_history.specs.Parts.{PassValue}
use Rattle.shared_store.specs.Passes.{HasRoom, runs_in, settled_in}
use Rattle.carbon_script.specs.Command.{Command, Metric, Refused, Long, Clock, Ask, Plan, Write, DrainAll, Bad, command_of}
use Rattle.carbon_script.specs.Script.{Does, DrainsFault, DrainsOut, DrainsPart, Eased, Machine, ScriptRun, Steps, ask_entries, opening, summary_text, with_entries}
use Rattle.carbon_script.specs.declared.counts.Counts.{Counts}
use Rattle.carbon_script.specs.declared.serve.ScriptEnd.{ScriptEnd}
use Rattle.carbon_script.specs.declared.serve.ScriptEnd.TheVariants as end

-- what contracts see of the code: its pass, its clock and its counts
pub record SessionValue : Type 0 where
  pub pass : PassValue
  pub clock : ℕ
  pub counts : Counts

-- The code stands for a machine, where the store began in a state and has one pass: the pass sees the machine's entries and nothing else, all drains of
-- a class that owes nothing were seen written, and no more runs were told of than were seen.
pub record Means (start : State) (code : SessionValue) (machine : Machine) : Type 0 where
  pub seen : code.pass.seen ≡ machine.entries
  pub number : code.pass.number ≡ 0
  pub alone : NamesPasses 1 machine.entries
  pub state : machine.state ≡ replay start machine.entries
  pub clock : code.clock ≡ machine.clock
  pub counts : code.counts ≡ machine.counts
  pub settled : (class : ℕ) → machine.owes class ≡ false → drains (about_class class machine.entries) ≤ settled_in class code.pass
  pub runs : (class : ℕ) → machine.runs class ≤ runs_in class code.pass

-- the pass has no room for what a call may enter
abbrev pub IsSpent : Machine → Type 0
IsSpent machine = 2 ^ 48 < length machine.entries + 4

-- ---- commands

-- the machine may do this at a command, the code stands for the machine after it, and what it says was written, and nothing else
pub record Done (told : ℕ → Option Image) (start : State) (machine : Machine) (command : Command) (before : Option (List ℕ)) (new : SessionValue) (after : Option (List ℕ)) : Type 0 where
  pub next : Machine
  pub said : List ℕ
  pub does : Does told machine command next said
  pub means : Means start new next
  pub wrote : Appends before after said

-- debts were found to have ended, and nothing else was done
pub record EasesOnly (m : Machine) (next : Machine) : Type 0 where
  pub eases : Eased m.owes next.owes
  pub becomes : next ≡ record m { owes = next.owes }

-- a query was entered, once or not at all, and not answered
pub record AsksPart (m : Machine) (next : Machine) : Type 0 where
  pub tries : ℕ
  pub few : tries ≤ 1
  pub becomes : next ≡ with_entries m (ask_entries m tries)

-- it was done, whatever it says
abbrev pub DoesSome : (ℕ → Option Image) → Machine → Command → Machine → Type 0
DoesSome told m command next = (said : List ℕ) × Does told m command next said

-- Memory runs out at a command: before it, within it, or for its reply. Nothing else takes memory.
abbrev pub RunsShort : (ℕ → Option Image) → Machine → Command → Machine → Type 0
RunsShort told m (Metric point) next = next ≡ m
RunsShort told m (Ask query) next = AsksPart m next ⊎ DoesSome told m (Ask query) next
RunsShort told m Plan next = EasesOnly m next ⊎ DoesSome told m Plan next
RunsShort told m Write next = DoesSome told m Write next
RunsShort told m DrainAll next = DrainsPart m next ⊎ DoesSome told m DrainAll next
RunsShort told m (Refused fault) next = ⊥
RunsShort told m Long next = ⊥
RunsShort told m (Clock t) next = ⊥
RunsShort told m Bad next = ⊥

-- The pass is spent at a command that would enter something: nothing of it is done, or some of the drains.
abbrev pub StopsSpent : Machine → Command → Machine → Type 0
StopsSpent m (Metric point) next = next ≡ m
StopsSpent m (Ask query) next = next ≡ m
StopsSpent m Plan next = next ≡ m
StopsSpent m Write next = next ≡ m
StopsSpent m DrainAll next = DrainsPart m next
StopsSpent m (Refused fault) next = ⊥
StopsSpent m Long next = ⊥
StopsSpent m (Clock t) next = ⊥
StopsSpent m Bad next = ⊥

-- the code stands for a machine, and nothing was written
pub record IsSilent (start : State) (next : Machine) (before : Option (List ℕ)) (new : SessionValue) (after : Option (List ℕ)) : Type 0 where
  pub means : Means start new next
  pub same : after ≡ before

-- a command was done, but no more than a front of its reply could be written
pub record IsHalfSaid (told : ℕ → Option Image) (start : State) (machine : Machine) (command : Command) (before : Option (List ℕ)) (new : SessionValue) (after : Option (List ℕ)) : Type 0 where
  pub next : Machine
  pub said : List ℕ
  pub does : Does told machine command next said
  pub means : Means start new next
  pub wrote : AppendsFront before after said

-- What stands where the script stops at a command. A disk that fails at one ends no script.
abbrev pub CutShort : Stop → (ℕ → Option Image) → State → Machine → Command → Option (List ℕ) → SessionValue → Option (List ℕ) → Type 0
CutShort stop.WriteFault told start machine command before new after = IsHalfSaid told start machine command before new after
CutShort (stop.DiskFault class) told start machine command before new after = ⊥
CutShort stop.Spent told start machine command before new after =
    (next : Machine) × (StopsSpent machine command next × (IsSpent next × IsSilent start next before new after))
CutShort stop.NoMemory told start machine command before new after =
    (next : Machine) × (RunsShort told machine command next × IsSilent start next before new after)

-- some text was written
abbrev pub AppendsSome : Option (List ℕ) → Option (List ℕ) → Type 0
AppendsSome before after = (text : List ℕ) × Appends before after text

-- What a command came to, whatever machine the code stood for.
abbrev pub Obeys : {T : Type 0} → (ℕ → Option Image) → State → Result T Stop → SessionValue → Command → Option (List ℕ) → SessionValue → Option (List ℕ) → Type 0
Obeys told start (Ok u) old command before new after = (machine : Machine) → Means start old machine → Done told start machine command before new after
Obeys told start (Err reason) old command before new after =
    (machine : Machine) → Means start old machine → CutShort reason told start machine command before new after

-- ---- the end of the input

-- all that was still pending is drained, the pass has still room, and the summary was written
pub record Summed (start : State) (machine : Machine) (before : Option (List ℕ)) (new : SessionValue) (after : Option (List ℕ)) : Type 0 where
  pub next : Machine
  pub count : ℕ
  pub drained : DrainsOut machine count next
  pub means : Means start new next
  pub room : HasRoom new.pass
  pub wrote : Appends before after (summary_text next)

-- or only a front of it could be
pub record IsHalfSummed (start : State) (machine : Machine) (before : Option (List ℕ)) (new : SessionValue) (after : Option (List ℕ)) : Type 0 where
  pub next : Machine
  pub count : ℕ
  pub drained : DrainsOut machine count next
  pub means : Means start new next
  pub room : HasRoom new.pass
  pub wrote : AppendsFront before after (summary_text next)

-- some was drained, or all
abbrev pub DrainsSoFar : Machine → Machine → Type 0
DrainsSoFar machine next = DrainsPart machine next ⊎ ((count : ℕ) × DrainsOut machine count next)

-- The same where it is cut short. A disk that fails ends the script here.
abbrev pub FinishShort : Stop → State → Machine → Option (List ℕ) → SessionValue → Option (List ℕ) → Type 0
FinishShort stop.WriteFault start machine before new after = IsHalfSummed start machine before new after
FinishShort (stop.DiskFault class) start machine before new after =
    (next : Machine) × (DrainsFault machine class next × IsSilent start next before new after)
FinishShort stop.Spent start machine before new after =
    (next : Machine) × (DrainsPart machine next × (IsSpent next × IsSilent start next before new after))
FinishShort stop.NoMemory start machine before new after =
    (next : Machine) × (DrainsSoFar machine next × IsSilent start next before new after)

abbrev pub Finishes : {T : Type 0} → State → Result T Stop → SessionValue → Option (List ℕ) → SessionValue → Option (List ℕ) → Type 0
Finishes start (Ok u) old before new after = (machine : Machine) → Means start old machine → Summed start machine before new after
Finishes start (Err reason) old before new after = (machine : Machine) → Means start old machine → FinishShort reason start machine before new after

-- ---- lines

-- What a line may make of the code and of what was written, where the script goes on.
pub record Serves (told : ℕ → Option Image) (start : State) (old : SessionValue) (line : Line) (before : Option (List ℕ)) (new : SessionValue) (after : Option (List ℕ)) : Type 0 where
  pub does : (machine : Machine) → Means start old machine → Done told start machine (command_of line machine.clock) before new after
  pub some : AppendsSome before after

-- and where it ends there
pub record Stops (told : ℕ → Option Image) (start : State) (old : SessionValue) (line : Line) (before : Option (List ℕ)) (reason : Stop) (new : SessionValue) (after : Option (List ℕ)) : Type 0 where
  pub cut : (machine : Machine) → Means start old machine
      → CutShort reason told start machine (command_of line machine.clock) before new after
  pub some : AppendsSome before after

-- ---- whole scripts

-- all lines of these bytes were served, from this machine on, and what they say was written
pub record ServesAll (told : ℕ → Option Image) (start : State) (from : Machine) (bytes : List ℕ) (before : Option (List ℕ)) (new : SessionValue) (after : Option (List ℕ)) : Type 0 where
  pub last : Machine
  pub said : List ℕ
  pub runs : Runs (Steps told) from (lines bytes) last said
  pub means : Means start new last
  pub wrote : Appends before after said

-- the first of these lines were served, and the script came to the machine `last` and said this; then comes another line
pub record ServesUpTo (told : ℕ → Option Image) (from : Machine) (all : List Line) (last : Machine) (line : Line) (said : List ℕ) : Type 0 where
  pub handed : List Line
  pub others : List Line
  pub runs : Runs (Steps told) from handed last said
  pub split : all ≡ handed ++ line ∷ others

-- the script stopped at one of these lines, behind what those before it said
pub record StopsAtLine (told : ℕ → Option Image) (start : State) (from : Machine) (reason : Stop) (all : List Line) (before : Option (List ℕ)) (new : SessionValue) (after : Option (List ℕ)) : Type 0 where
  pub last : Machine
  pub line : Line
  pub said : List ℕ
  pub served : ServesUpTo told from all last line said
  pub mid : Option (List ℕ)
  pub wrote : Appends before mid said
  pub cut : CutShort reason told start last (command_of line last.clock) mid new after

-- or behind the last of them, at the end of the input, in the drain of all that is pending or the summary
pub record StopsAtEnd (told : ℕ → Option Image) (start : State) (from : Machine) (reason : Stop) (all : List Line) (before : Option (List ℕ)) (new : SessionValue) (after : Option (List ℕ)) : Type 0 where
  pub last : Machine
  pub said : List ℕ
  pub served : Runs (Steps told) from all last said
  pub mid : Option (List ℕ)
  pub wrote : Appends before mid said
  pub cut : FinishShort reason start last mid new after

-- the input came to its end before its limit
pub record IsReadOut (taken : List ℕ) (left : Option (List ℕ)) : Type 0 where
  pub ended : IsAtEnd left
  pub short : length taken < 2 ^ 40

-- a script that was stopped, at a line or at the end
abbrev pub StopsWith : (ℕ → Option Image) → State → Machine → Stop → List ℕ → Option (List ℕ) → Option (List ℕ) → SessionValue → Option (List ℕ) → Type 0
StopsWith told start from reason taken left before new after =
    StopsAtLine told start from reason (lines taken) before new after
    ⊎ (StopsAtEnd told start from reason (lines taken) before new after × IsReadOut taken left)

-- all of it was run, its text was written, and the pass had room for all that it entered and has some still
pub record RunsWhole (told : ℕ → Option Image) (start : State) (from : Machine) (taken : List ℕ) (before : Option (List ℕ)) (new : SessionValue) (after : Option (List ℕ)) : Type 0 where
  pub last : Machine
  pub text : List ℕ
  pub run : ScriptRun told from taken last text
  pub means : Means start new last
  pub room : HasRoom new.pass
  pub wrote : Appends before after text

-- Where a script stands at each of its ends, of which the bytes `taken` were read. At the end of the input it is that of the whole script. At a failed
-- read, which comes before the input's limit, and at that limit it is that of all lines that were taken, and nothing is drained besides; so too where
-- memory ran out between two reads, of what was taken before the last one. Else it was stopped, at a line or at the end.
abbrev pub EndsAs : (ℕ → Option Image) → State → Machine → ScriptEnd → List ℕ → Option (List ℕ) → Option (List ℕ) → SessionValue → Option (List ℕ) → Type 0
EndsAs told start from end.Done taken left before new after = RunsWhole told start from taken before new after × IsReadOut taken left
EndsAs told start from end.ReadFault taken left before new after = ServesAll told start from taken before new after × (length taken < 2 ^ 40)
EndsAs told start from end.InputLimit taken left before new after = ServesAll told start from taken before new after × (length taken ≡ 2 ^ 40)
EndsAs told start from end.WriteFault taken left before new after = StopsWith told start from stop.WriteFault taken left before new after
EndsAs told start from (end.DiskFault class) taken left before new after =
    StopsAtEnd told start from (stop.DiskFault class) (lines taken) before new after × IsReadOut taken left
EndsAs told start from end.Spent taken left before new after = StopsWith told start from stop.Spent taken left before new after
EndsAs told start from end.NoMemory taken left before new after =
    ((front : List ℕ) × (RunsOut front taken × ServesAll told start from front before new after))
    ⊎ StopsWith told start from stop.NoMemory taken left before new after

-- What a script came to that goes on from this machine.
pub record EndsFrom (told : ℕ → Option Image) (start : State) (from : Machine) (reason : ScriptEnd) (left : Option (List ℕ)) (before : Option (List ℕ)) (left' : Option (List ℕ)) (new : SessionValue) (after : Option (List ℕ)) : Type 0 where
  pub taken : List ℕ
  pub consumed : Consumes left left' taken
  pub ends : EndsAs told start from reason taken left' before new after
  pub some : AppendsSome before after

-- What a script came to.
abbrev pub Ends : (ℕ → Option Image) → State → ScriptEnd → Option (List ℕ) → Option (List ℕ) → Option (List ℕ) → SessionValue → Option (List ℕ) → Type 0
Ends told start = EndsFrom told start (opening start)

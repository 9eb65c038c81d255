-- What a run of carbon comes to.
use Rattle.std.specs.Prelude.{◌≡◌, ◌⊎◌, ℕ, Bool, List, [], ◌∷◌, ◌++◌, Option, Some, None, IfSome, slice_get, string_bytes}
use Rattle.std.specs.Io.KnownBytes.{Appends}
use Rattle.outside_io.specs.Image.{Image, WhereKnown}
use Rattle.outside_io.specs.Faults.{Rose}
use Rattle.outside_io.specs.Sink.{AppendsFront}
use Rattle.outside_io.specs.declared.disk.Disk.{Ghosts}
use Rattle.outside_io.specs.declared.source.Source.{Ghosts as SourceGhosts}
use Rattle.outside_io.specs.declared.sink.Sink.{Ghosts as SinkGhosts}
use Rattle.carbon_history.specs.declared.entry.Entry.{Entry}
use Rattle.carbon_history.specs.declared.entry.Entry.TheVariants.{Fault}
use Rattle.carbon_model.specs.State.{State}
use Rattle.carbon_model.specs.RingFiles.{Opens, Settings}
use Rattle.carbon_model.specs.Replay.{IsLegalHistory, replay}
use Rattle.shard_core.specs.declared.fault.StartFault.{StartFault}
use Rattle.shard_core.specs.declared.fault.StartFault.TheVariants.{Damaged, DiskFault, NoMemory}
use Rattle.shard_core.specs.Opened.{IsOpening}
use Rattle.shard_core.specs.declared.shard.Shard.{Shard}
use Rattle.shard_set.specs.Disks.{disk_faults, told_at, told_of}
use Rattle.shard_set.specs.Opening.{AreSound, RefusesAll, StartsAll}
use Rattle.shard_set.specs.declared.refused.Refusal.{Refusal}
use Rattle.shared_store.specs.Closes.{EndsAs}
pub use Rattle.carbon_serve.specs.Serves.{IsDrained}
use Rattle.carbon_script.specs.Behind.{EndsBehind}
use Rattle.carbon_script.specs.Sessions.{Ends, SessionValue}
use Rattle.carbon_script.specs.declared.serve.ScriptEnd.{ScriptEnd}
use Rattle.carbon_script.specs.declared.serve.ScriptEnd.TheVariants as end
use Rattle.carbon_script.specs.declared.serve.Scripted.{Scripted as ServedScript}
use Rattle.carbon_words.specs.declared.command.Command.{Command}
use Rattle.carbon_words.specs.declared.command.Command.TheVariants as commands
use Rattle.carbon_words.specs.declared.reading.WordsFault.{WordsFault}
use Rattle.carbon_words.specs.declared.reading.WordsFault.TheVariants as words
use Rattle.carbon_run.specs.Conf.{IsRefused}
use Rattle.carbon_run.specs.declared.conf.ConfFault.{ConfFault}
use Rattle.carbon_run.specs.declared.conf.ConfFault.TheVariants as conf
use Rattle.carbon_run.specs.Texts.{agg_fault_line, conf_fault_line, damaged_line, disk_fault_line, limit_line, no_memory_line, read_fault_line, rule_fault_line, usage_line}

-- The streams of a run: what is left of the input, and what was written, before it and after it. Before the input may stand a front, whose lines are
-- served as those of the input are, and what they say is not written.
pub record Streams : Type 0 where
  pub front : Option (List ℕ)
  pub left : Option (List ℕ)
  pub left' : Option (List ℕ)
  pub written : Option (List ℕ)
  pub written' : Option (List ℕ)

-- what a run answers
pub record Answer (D : Type 0) : Type 0 where
  pub status : ℕ
  pub history : List Entry
  pub disks : List D

-- those of a source and a sink
abbrev pub streams_of : {S K : Type 0} → SourceGhosts S → SinkGhosts K → S → S → K → K → Streams
streams_of s k input input' out out' =
    record { front = None; left = s.left input; left' = s.left input'; written = k.written out; written' = k.written out' }

-- the same behind a front
abbrev pub behind : Option (List ℕ) → Streams → Streams
behind front streams = record streams { front = front }

abbrev pub answer_of : {D : Type 0} → ℕ → List Entry → List D → Answer D
answer_of status history disks = record { status = status; history = history; disks = disks }

-- A fault line was written, and nothing else, under the status of the fault; or no more than a front of the line could be, and the status is 7.
pub record TellsAlone (status : ℕ) (line : List ℕ) (answer : ℕ) (before after : Option (List ℕ)) : Type 0 where
  pub either : (answer ≡ status) ⊎ (answer ≡ 7)
  pub told : answer ≡ status → Appends before after line
  pub short : answer ≡ 7 → AppendsFront before after line

-- ---- runs that end before their command

-- The words are no command: that alone is told, and nothing is touched.
pub record NoCommand {D : Type 0} (streams : Streams) (given : List D) (answer : Answer D) : Type 0 where
  pub tells : TellsAlone 2 usage_line answer.status streams.written streams.written'
  pub history : answer.history ≡ []
  pub disks : answer.disks ≡ given
  pub input : streams.left' ≡ streams.left

-- There was no memory to read the words: the same.
pub record NoWords {D : Type 0} (streams : Streams) (given : List D) (answer : Answer D) : Type 0 where
  pub tells : TellsAlone 8 no_memory_line answer.status streams.written streams.written'
  pub history : answer.history ≡ []
  pub disks : answer.disks ≡ given
  pub input : streams.left' ≡ streams.left

-- how it is told why the words say nothing
abbrev pub TellsWords : WordsFault → ℕ → Option (List ℕ) → Option (List ℕ) → Type 0
TellsWords words.Usage answer before after = TellsAlone 2 usage_line answer before after
TellsWords words.NoMemory answer before after = TellsAlone 8 no_memory_line answer before after

-- how a fault of the rule files is told
abbrev pub TellsConf : ConfFault → ℕ → Option (List ℕ) → Option (List ℕ) → Type 0
TellsConf (conf.Refused file cause) answer before after = TellsAlone 3 (rule_fault_line file cause) answer before after
TellsConf (conf.RefusedAgg cause) answer before after = TellsAlone 3 (agg_fault_line cause) answer before after
TellsConf conf.DiskFault answer before after = TellsAlone 5 conf_fault_line answer before after
TellsConf conf.NoMemory answer before after = TellsAlone 8 no_memory_line answer before after

abbrev pub IsConfDisk : ConfFault → Type 0
IsConfDisk (conf.Refused file cause) = ⊥
IsConfDisk (conf.RefusedAgg cause) = ⊥
IsConfDisk conf.DiskFault = Unit {0}
IsConfDisk conf.NoMemory = ⊥

-- a server reads the aggregation rules too, behind the two rule files that every command reads
abbrev pub ReadsAgg : Command → Type 0
ReadsAgg (commands.Script said) = ⊥
ReadsAgg (commands.Sample said more) = ⊥
ReadsAgg (commands.Serve said more) = Unit {0}

-- for another command nothing is asked of the folder
abbrev pub AsksFor : {D : Type 0} → Command → D → D → Type 0
AsksFor (commands.Script said) folder folder' = folder' ≡ folder
AsksFor (commands.Sample said more) folder folder' = folder' ≡ folder
AsksFor (commands.Serve said more) folder folder' = Unit {0}

-- the fault is none of the aggregation rules, or the command reads them
abbrev pub IsFaultFor : Command → ConfFault → Type 0
IsFaultFor command (conf.Refused file cause) = Unit {0}
IsFaultFor command (conf.RefusedAgg cause) = ReadsAgg command
IsFaultFor command conf.DiskFault = Unit {0}
IsFaultFor command conf.NoMemory = Unit {0}

-- There are no rules: a rule file is refused by its first fault, the folder's count of failed calls rose, or memory ran out. That alone is told,
-- nothing was put, drained or asked, and the disks and the input are as they were.
pub record NoRules {D : Type 0} (d : Ghosts D) (command : Command) (folder folder' : D) (streams : Streams) (given : List D) (answer : Answer D) : Type 0 where
  pub fault : ConfFault
  pub own : IsFaultFor command fault
  pub first : IfSome (d.image folder) (IsRefused fault)
  pub cause : IsConfDisk fault → Rose (d.faults folder) (d.faults folder')
  pub tells : TellsConf fault answer.status streams.written streams.written'
  pub history : answer.history ≡ []
  pub disks : answer.disks ≡ given
  pub input : streams.left' ≡ streams.left

-- how it is told that a shard did not start
abbrev pub TellsStart : StartFault → ℕ → ℕ → Option (List ℕ) → Option (List ℕ) → Type 0
TellsStart (Damaged name) class answer before after = TellsAlone 4 (damaged_line (string_bytes name)) answer before after
TellsStart DiskFault class answer before after = TellsAlone 5 (disk_fault_line class) answer before after
TellsStart NoMemory class answer before after = TellsAlone 8 no_memory_line answer before after

-- A shard did not start: its class has a damaged file, the first of which is told, or its disk's count of failed calls rose, or memory ran out; and no
-- class before it has a damaged file. Or, of a script, all did, and memory ran out for their history. That alone is told, nothing was put, drained or
-- asked, and the disks open as they did.
pub record NoStart {D : Type 0} (d : Ghosts D) (streams : Streams) (disks : List D) (answer : Answer D) : Type 0 where
  pub refusal : Refusal
  pub refuses : RefusesAll d disks answer.disks refusal
  pub tells : TellsStart refusal.fault refusal.class answer.status streams.written streams.written'
  pub history : answer.history ≡ []
  pub input : streams.left' ≡ streams.left

-- ---- runs of the script

-- how a script ended: over its input alone, or behind a front
abbrev pub EndsOver : (ℕ → Option Image) → State → ScriptEnd → Option (List ℕ) → Option (List ℕ) → Option (List ℕ) → Option (List ℕ) → SessionValue → Option (List ℕ) → Type 0
EndsOver told start reason None left before left' session after = Ends told start reason left before left' session after
EndsOver told start reason (Some front) left before left' session after = EndsBehind told start reason (Some front) left before left' session after

-- the end that it had, and its pass, with some clock and counts
pub record EndsOverWith (told : ℕ → Option Image) (start : State) (served : ServedScript) (front left before left' after : Option (List ℕ)) : Type 0 where
  pub code : SessionValue
  pub pass : code.pass ≡ served.pass
  pub ends : EndsOver told start served.end front left before left' code after

-- How the end of a script is told behind what it wrote: by a fault line, but where it is done, or a write failed.
abbrev pub TellsEnd : ScriptEnd → ℕ → Option (List ℕ) → Option (List ℕ) → Type 0
TellsEnd end.Done answer before after = (answer ≡ 0) × (after ≡ before)
TellsEnd end.ReadFault answer before after = TellsAlone 6 read_fault_line answer before after
TellsEnd end.WriteFault answer before after = (answer ≡ 7) × (after ≡ before)
TellsEnd (end.DiskFault class) answer before after = TellsAlone 5 (disk_fault_line class) answer before after
TellsEnd end.InputLimit answer before after = TellsAlone 10 limit_line answer before after
TellsEnd end.Spent answer before after = TellsAlone 10 limit_line answer before after
TellsEnd end.NoMemory answer before after = TellsAlone 8 no_memory_line answer before after

-- the fault line of an end could not be written: the status is 7 although the script did not end by a failed write
abbrev pub FailsToTell : ScriptEnd → ℕ → Type 0
FailsToTell end.WriteFault answer = ⊥
FailsToTell end.Done answer = answer ≡ 7
FailsToTell end.ReadFault answer = answer ≡ 7
FailsToTell (end.DiskFault class) answer = answer ≡ 7
FailsToTell end.InputLimit answer = answer ≡ 7
FailsToTell end.Spent answer = answer ≡ 7
FailsToTell end.NoMemory answer = answer ≡ 7

-- the last entry is that the disk of a class failed, whose count of failed calls rose
pub record EndsByDisk {D : Type 0} (d : Ghosts D) (earlier : ℕ → ℕ) (class : ℕ) (answer : Answer D) : Type 0 where
  pub before : List Entry
  pub last : answer.history ≡ before ++ Fault 0 class ∷ []
  pub cause : Rose (earlier class) (disk_faults d.faults answer.disks class)

-- What a script came to that began in a state, over disks that had told these images and had failed so often. Its end says what of the input was
-- served and what was written, and is told behind that. The history is what the one pass made, and is legal. Each disk stands for what is kept of
-- its class, under a patch where a drain was not written whole. Where the script is done all is drained.
pub record CameTo {D : Type 0} (d : Ghosts D) (told : ℕ → Option Image) (start : State) (earlier : ℕ → ℕ) (streams : Streams) (answer : Answer D) : Type 0 where
  pub reason : ScriptEnd
  pub session : SessionValue
  pub mid : Option (List ℕ)
  pub ends : EndsOver told start reason streams.front streams.left streams.written streams.left' session mid
  pub tells : TellsEnd reason answer.status mid streams.written'
  pub history : answer.history ≡ session.pass.seen
  pub legal : IsLegalHistory start answer.history
  pub disks : (k : ℕ) (disk : D) → slice_get answer.disks k ≡ Some disk → EndsAs d told start earlier (session.pass ∷ []) answer.history k disk
  pub done : reason ≡ end.Done → IsDrained d.image told answer.disks (replay start answer.history)
  pub fault : (class : ℕ) → reason ≡ end.DiskFault class → EndsByDisk d earlier class answer

-- The script ran over the shards of all classes, whose drains go through the log where the words say so: what an open gate held is laid on their
-- disks, none of which then has a damaged file. It ran from a state in which a run may begin over these disks.
pub record Scripted {D : Type 0} (d : Ghosts D) (settings : Settings) (redo : Bool) (streams : Streams) (given : List D) (answer : Answer D) : Type 0 where
  pub shards : List (Shard D d)
  pub starts : StartsAll settings redo given shards
  pub told : ℕ → Option Image
  pub told_is : (k : ℕ) → told k ≡ told_at shards k
  pub opening : (k : ℕ) → WhereKnown (told_of d.image given k) (told k) IsOpening
  pub sound : AreSound told 16
  pub start : State
  pub opens : Opens settings told start
  pub came : CameTo d told start (disk_faults d.faults given) streams answer

-- What a run of `serve` comes to.
use Rattle.std.specs.Prelude.{◌≡◌, ◌⊎◌, ◌+◌, ℕ, Bool, List, [], length, map, Option, None}
use Rattle.outside_io.specs.Image.{Image, WhereKnown}
use Rattle.outside_io.specs.Faults.{Rose}
use Rattle.outside_io.specs.declared.disk.Disk.{Ghosts}
use Rattle.carbon_model.specs.State.{State}
use Rattle.carbon_model.specs.RingFiles.{Opens, Settings}
use Rattle.shard_core.specs.declared.shard.Shard.{Shard}
use Rattle.shard_core.specs.Opened.{IsOpening, StillOpens}
use Rattle.shard_set.specs.Disks.{disk_faults, told_at, told_of}
use Rattle.shard_set.specs.Opening.{AreSound, StartsAll}
use Rattle.shared_store.specs.Tallies.{tally_of}
use Rattle.shared_store.specs.declared.tally.Tally.{Tally}
use Rattle.shared_store.specs.declared.drain_end.DrainEnd.{DrainEnd}
use Rattle.shared_store.specs.declared.drain_end.DrainEnd.TheVariants.{Done, DiskFault, Spent, NoMemory}
use Rattle.carbon_serve.specs.Courses.{Staff}
use Rattle.carbon_serve.specs.Serves.{Serves}
use Rattle.carbon_serve.specs.declared.crew.Duties.{Duties}
use Rattle.carbon_words.specs.declared.command.ServeOptions.{ServeOptions}
use Rattle.carbon_run.specs.Runs.{Answer, NoStart, Streams, TellsAlone}
use Rattle.carbon_run.specs.Stores.{LacksMemory}
use Rattle.carbon_run.specs.Texts.{disk_fault_line, limit_line, no_memory_line, no_port_line, tally_line}

-- ---- the workers of a server

-- a pass for each worker, those that drain among them, and one for the run itself
abbrev pub passes_for : ServeOptions → ℕ
passes_for options = options.receivers + options.renderers + options.drains.drainers + 1

-- each does what the options say
abbrev pub duties_of : ServeOptions → Duties
duties_of options = record {
  receivers = options.receivers;
  renderers = options.renderers;
  answer_bytes = options.answer_bytes;
  pace = record { drains = options.drains.pace; creates = options.drains.creates };
}

-- ---- the end of a server

-- How the end of a server is told: by the counts of its history where all is drained, else by a fault line.
abbrev pub TellsServed : DrainEnd → Tally → ℕ → Option (List ℕ) → Option (List ℕ) → Type 0
TellsServed (Done count) tally answer before after = TellsAlone 0 (tally_line tally) answer before after
TellsServed (DiskFault class) tally answer before after = TellsAlone 5 (disk_fault_line class) answer before after
TellsServed Spent tally answer before after = TellsAlone 10 limit_line answer before after
TellsServed NoMemory tally answer before after = TellsAlone 8 no_memory_line answer before after

-- What serving by a staff came to that began in a state, over disks that had told these images and had failed so often: of each link that was served
-- the lines were put and the requests answered as the history says. Nothing is written to the output but how it ended, and the input is not read.
pub record ServesAll {D L : Type 0} (d : Ghosts D) (staff : Staff L) (told : ℕ → Option Image) (start : State) (earlier : ℕ → ℕ) (streams : Streams) (answer : Answer D) : Type 0 where
  pub reason : DrainEnd
  pub serves : Serves d staff told start earlier reason answer.history answer.disks
  pub tells : TellsServed reason (tally_of answer.history) answer.status streams.written streams.written'
  pub input : streams.left' ≡ streams.left

-- ---- runs of the command

-- The shards of all classes started, none of whose disks has a damaged file, and nothing was put, drained or asked: the disks open as they did.
pub record Unserved {D : Type 0} (d : Ghosts D) (streams : Streams) (given : List D) (answer : Answer D) : Type 0 where
  pub sound : AreSound (told_of d.image answer.disks) 16
  pub sixteen : length answer.disks ≡ 16
  pub still : (k : ℕ) → WhereKnown (told_of d.image given k) (told_of d.image answer.disks k) StillOpens
  pub history : answer.history ≡ []
  pub input : streams.left' ≡ streams.left

-- The shards of all classes started, and the ports could not be had: the net's count of failed calls rose. That alone is told.
pub record NoPort {D : Type 0} {E : Type 0} (d : Ghosts D) (net_faults : E → ℕ) (net net' : E) (streams : Streams) (given : List D) (answer : Answer D) : Type 0 where
  pub cause : Rose (net_faults net) (net_faults net')
  pub tells : TellsAlone 9 no_port_line answer.status streams.written streams.written'
  pub unserved : Unserved d streams given answer

-- The shards of all classes started, the ports were bound, and there was no memory for the history and the store of what they bring. That alone is told.
pub record NoStore {D : Type 0} (d : Ghosts D) (streams : Streams) (given : List D) (answer : Answer D) : Type 0 where
  pub tells : TellsAlone 8 no_memory_line answer.status streams.written streams.written'
  pub unserved : Unserved d streams given answer

-- The shards of all classes started, whose drains go through the log where the words say so: what an open gate held is laid on their disks. The store
-- served what the net brought, from a state in which a run may begin over these disks.
pub record Served {D L : Type 0} (d : Ghosts D) (settings : Settings) (redo : Bool) (staff : Staff L) (streams : Streams) (given : List D) (answer : Answer D) : Type 0 where
  pub shards : List (Shard D d)
  pub starts : StartsAll settings redo given shards
  pub told : ℕ → Option Image
  pub told_is : (k : ℕ) → told k ≡ told_at shards k
  pub opening : (k : ℕ) → WhereKnown (told_of d.image given k) (told k) IsOpening
  pub sound : AreSound told 16
  pub start : State
  pub opens : Opens settings told start
  pub serves : ServesAll d staff told start (disk_faults d.faults given) streams answer

-- A server over these disks: a shard does not start, and the net is as it was; or there is no port, or no memory behind the ports, or it serves.
abbrev pub ServeRuns : {D E L : Type 0} → Ghosts D → (E → ℕ) → E → E → Settings → Bool → Staff L → Streams → List D → Answer D → Type 0
ServeRuns d net_faults net net' settings redo staff streams given answer =
    ((net' ≡ net) × NoStart d streams given answer)
    ⊎ (NoPort d net_faults net net' streams given answer
    ⊎ (NoStore d streams given answer ⊎ Served d settings redo staff streams given answer))

-- ---- over shards that have started

-- the streams of what has no input
abbrev pub unread : Option (List ℕ) → Option (List ℕ) → Streams
unread before after = record { front = None; left = None; left' = None; written = before; written' = after }

-- there is no port for them, and the disks of the shards are handed back
pub record LacksPort {D : Type 0} {E : Type 0} {d : Ghosts D} (net_faults : E → ℕ) (net net' : E) (shards : List (Shard D d)) (streams : Streams) (answer : Answer D) : Type 0 where
  pub cause : Rose (net_faults net) (net_faults net')
  pub tells : TellsAlone 9 no_port_line answer.status streams.written streams.written'
  pub history : answer.history ≡ []
  pub disks : answer.disks ≡ map (λ shard. shard.files.disk) shards
  pub input : streams.left' ≡ streams.left

-- once the ports are bound, memory runs out, or they are served
abbrev pub ServesShards : {D L : Type 0} {d : Ghosts D} → Staff L → (ℕ → Option Image) → State → (ℕ → ℕ) → List (Shard D d) → Streams → Answer D → Type 0
ServesShards {D} {L} {d} staff told start earlier shards streams answer =
    LacksMemory shards streams answer ⊎ ServesAll d staff told start earlier streams answer

-- From shards that started to the end of a server.
use Rattle.std.proofs.Common.{◌≡◌, ◌⊎◌, inl, inr, ◌∙◌, ℕ, ◌≤◌, Bool, List, [], length, map, Option, None, IfSome, refl, sym, ap, subst}
use Rattle.std.specs.Prelude.{count_by}
use Rattle.outside_io.specs.Image.{Image}
use Rattle.outside_io.specs.declared.disk.Disk.{Ghosts}
use Rattle.carbon_history.specs.declared.entry.Entry.{Entry}
use Rattle.carbon_history.specs.Entries.{about_class}
use Rattle.carbon_model.specs.State.{State}
use Rattle.carbon_model.specs.RingFiles.{Settings}
use Rattle.shard_core.specs.Opened.{IsSoundDisk}
use Rattle.shard_core.specs.declared.shard.Shard.{Shard}
use Rattle.shard_set.specs.Disks.{disk_faults, faults_at, told_at, told_of}
use Rattle.shard_set.specs.Opening.{StartsAll}
use Rattle.shard_set.specs.OpeningState.{opening_of}
use Rattle.shard_set.proofs.StateLemmas.{opens_run}
use Rattle.shared_store.specs.Closes.{EndsAs}
use Rattle.shared_store.specs.Tallies.{is_fault}
use Rattle.shared_store.specs.declared.drain_end.DrainEnd.{DrainEnd}
use Rattle.shared_store.specs.declared.drain_end.DrainEnd.TheVariants as end
use Rattle.carbon_serve.specs.Courses.{Staff}
use Rattle.carbon_serve.specs.Serves.{EndsByFault, EndsServed, Serves}
use Rattle.carbon_run.specs.Runs.{Answer, Streams}
use Rattle.carbon_run.specs.Serves.{LacksPort, ServeRuns, ServesAll, ServesShards, Unserved, unread}
use Rattle.shard_set.proofs.OpeningLemmas.{still_all}
use Rattle.carbon_run.proofs.RunLemmas.{back_opens, back_same, length_back, less_rose, less_told}

-- ---- earlier counts of failed calls

fault_earlier : {D : Type 0} (d : Ghosts D) (earlier earlier' : ℕ → ℕ) (passes class : ℕ) (history : List Entry) (disks : List D) → ((k : ℕ) → earlier' k ≤ earlier k)
    → EndsByFault d earlier passes class history disks → EndsByFault d earlier' passes class history disks
fault_earlier d earlier earlier' passes class history disks later ends = record {
  pass = ends.pass;
  is = ends.is;
  before = ends.before;
  last = ends.last;
  cause = less_rose (earlier class) (earlier' class) (disk_faults d.faults disks class) (later class) ends.cause;
}

ends_earlier : {D : Type 0} (d : Ghosts D) (told : ℕ → Option Image) (start : State) (earlier earlier' : ℕ → ℕ) (passes : ℕ) (reason : DrainEnd) (history : List Entry) (disks : List D) → ((k : ℕ) → earlier' k ≤ earlier k)
    → EndsServed d told start earlier passes reason history disks → EndsServed d told start earlier' passes reason history disks
ends_earlier d told start earlier earlier' passes (end.Done count) history disks later ends = ends
ends_earlier d told start earlier earlier' passes (end.DiskFault class) history disks later ends =
    (fault_earlier d earlier earlier' passes class history disks later ends.0, ends.1)
ends_earlier d told start earlier earlier' passes end.Spent history disks later ends = ends
ends_earlier d told start earlier earlier' passes end.NoMemory history disks later ends = ends

serves_earlier : {D L : Type 0} (d : Ghosts D) (staff : Staff L) (told : ℕ → Option Image) (start : State) (earlier earlier' : ℕ → ℕ) (streams : Streams) (answer : Answer D) → ((k : ℕ) → earlier' k ≤ earlier k)
    → ServesAll d staff told start earlier streams answer → ServesAll d staff told start earlier' streams answer
serves_earlier {D} d staff told start earlier earlier' streams answer later all =
    let serves : Serves d staff told start earlier all.reason answer.history answer.disks = all.serves in record {
      reason = all.reason;
      serves = record {
        ends = ends_earlier d told start earlier earlier' staff.passes all.reason answer.history answer.disks later serves.ends;
        legal = serves.legal;
        names = serves.names;
        timed = serves.timed;
        courses = serves.courses;
        last = serves.last;
        stand = λ k disk there.
            let ends : EndsAs d told start earlier [] answer.history k disk = serves.stand k disk there in record {
              patch = ends.patch;
              stands = ends.stands;
              last = ends.last;
              whole = ends.whole;
              shut = ends.shut;
              faults = less_told (earlier k) (earlier' k) (count_by is_fault (about_class k answer.history)) (d.faults disk) (later k) ends.faults;
            };
        sixteen = serves.sixteen;
      };
      tells = all.tells;
      input = all.input;
    }

-- ---- from the shards to the disks that were given

unserved : {D : Type 0} {d : Ghosts D} (settings : Settings) (redo : Bool) (given : List D) (shards : List (Shard D d)) (streams : Streams) (answer : Answer D) → StartsAll settings redo given shards
    → answer.disks ≡ map (λ shard. shard.files.disk) shards → answer.history ≡ [] → streams.left' ≡ streams.left → Unserved d streams given answer
unserved {d = d} settings redo given shards streams answer starts disks history input = record {
  sound = λ k few. subst (λ (o : Option Image). IfSome o (IsSoundDisk k)) (sym (ap (λ (ds : List _). told_of d.image ds k) disks ∙ back_same shards k)) (starts.sound k few);
  sixteen = ap (λ (ds : List _). length ds) disks ∙ (length_back shards ∙ starts.all);
  still = back_opens given answer.disks shards disks (still_all settings redo given shards starts);
  history = history;
  input = input;
}

pub served_over : {D E L : Type 0} {d : Ghosts D} (net_faults : E → ℕ) (net net' : E) (settings : Settings) (redo : Bool) (given : List D) (shards : List (Shard D d)) (staff : Staff L) (streams : Streams) (answer : Answer D)
    → StartsAll settings redo given shards
    → LacksPort net_faults net net' shards streams answer ⊎ ServesShards staff (told_at shards) (opening_of shards) (faults_at shards) shards streams answer
    → ServeRuns d net_faults net net' settings redo staff streams given answer
served_over net_faults net net' settings redo given shards staff streams answer starts (inl lacks) =
    inr (inl (record { cause = lacks.cause; tells = lacks.tells; unserved = unserved settings redo given shards streams answer starts lacks.disks lacks.history lacks.input }))
served_over net_faults net net' settings redo given shards staff streams answer starts (inr (inl lacks)) =
    inr (inr (inl (record { tells = lacks.tells; unserved = unserved settings redo given shards streams answer starts lacks.disks lacks.history lacks.input })))
served_over {d = d} net_faults net net' settings redo given shards staff streams answer starts (inr (inr serves)) = inr (inr (inr (record {
  shards = shards;
  starts = starts;
  told = told_at shards;
  told_is = λ k. refl;
  opening = starts.opening;
  sound = starts.sound;
  start = opening_of shards;
  opens = opens_run settings redo (told_at shards) given shards starts.all starts.each (λ k. refl);
  serves = serves_earlier d staff (told_at shards) (opening_of shards) (faults_at shards) (disk_faults d.faults given) streams answer starts.later serves;
})))

-- ---- streams

beside : {D : Type 0} (d : Ghosts D) (left before after : Option (List ℕ)) (given : List D) (answer : Answer D) → Unserved d (unread before after) given answer
    → Unserved d (record { front = None; left = left; left' = left; written = before; written' = after }) given answer
beside d left before after given answer none = record { sound = none.sound; sixteen = none.sixteen; still = none.still; history = none.history; input = refl }

-- a server is told of no input, so whatever is left of one stays
pub beside_input : {D E L : Type 0} (d : Ghosts D) (net_faults : E → ℕ) (net net' : E) (settings : Settings) (redo : Bool) (staff : Staff L) (left : Option (List ℕ)) (before after : Option (List ℕ)) (given : List D) (answer : Answer D)
    → ServeRuns d net_faults net net' settings redo staff (unread before after) given answer
    → ServeRuns d net_faults net net' settings redo staff (record { front = None; left = left; left' = left; written = before; written' = after }) given answer
beside_input d net_faults net net' settings redo staff left before after given answer (inl none) =
    inl (none.0, record { refusal = none.1.refusal; refuses = none.1.refuses; tells = none.1.tells; history = none.1.history; input = refl })
beside_input d net_faults net net' settings redo staff left before after given answer (inr (inl none)) =
    inr (inl (record { cause = none.cause; tells = none.tells; unserved = beside d left before after given answer none.unserved }))
beside_input d net_faults net net' settings redo staff left before after given answer (inr (inr (inl none))) =
    inr (inr (inl (record { tells = none.tells; unserved = beside d left before after given answer none.unserved })))
beside_input d net_faults net net' settings redo staff left before after given answer (inr (inr (inr served))) =
    inr (inr (inr (record {
      shards = served.shards;
      starts = served.starts;
      told = served.told;
      told_is = served.told_is;
      opening = served.opening;
      sound = served.sound;
      start = served.start;
      opens = served.opens;
      serves = record { reason = served.serves.reason; serves = served.serves.serves; tells = served.serves.tells; input = refl };
    })))

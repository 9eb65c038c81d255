-- A shard that started is fresh.
use Rattle.std.proofs.Common.{◌≡◌, ◌∙◌, ℕ, Bool, Option, ap}
use Rattle.outside_io.specs.Image.{Image}
use Rattle.outside_io.specs.declared.disk.Disk.{Ghosts}
use Rattle.carbon_model.specs.RingFiles.{Opens, Settings}
use Rattle.carbon_model.specs.State.{State}
use Rattle.shard_core.specs.Started.{KeepsLaidOut, StartedFrom}
use Rattle.shard_core.specs.declared.shard.Shard.{Shard}
use Rattle.shard_core.specs.Work.{WorkValue}
use Rattle.shard_core.proofs.LawLemmas.{idle_on, none_on, started_holds}
use Rattle.shard_core.specs.Started.{IsReadyShard}

pub started_fresh : {D : Type 0} {d : Ghosts D} (class : ℕ) (settings : Settings) (redo : Bool) (told : ℕ → Option Image) (s : State) (earlier : ℕ → ℕ) (disk : D) (shard : Shard D d)
    → StartedFrom class settings redo disk shard → Opens settings told s → d.image shard.files.disk ≡ told class → KeepsLaidOut class (told class) shard.desk.table s.kept
    → earlier class ≡ d.faults shard.files.disk → IsReadyShard told s earlier class shard
started_fresh class settings redo told s earlier disk shard started opens tells laid faults = record {
  class = started.here;
  empty = ap (λ (w : WorkValue). w.shelf) started.empty ∙ none_on redo;
  idle = ap (λ (w : WorkValue). w.steps) started.empty ∙ idle_on redo;
  holds = started_holds class settings redo told s disk shard started opens tells laid;
  faults = faults;
}

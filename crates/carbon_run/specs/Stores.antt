-- What a run over shards that have started comes to.
use Rattle.std.specs.Prelude.{◌≡◌, ◌⊎◌, ℕ, List, [], Option, map}
use Rattle.outside_io.specs.Image.{Image}
use Rattle.outside_io.specs.declared.disk.Disk.{Ghosts}
use Rattle.carbon_model.specs.State.{State}
use Rattle.shard_core.specs.declared.shard.Shard.{Shard}
use Rattle.carbon_run.specs.Runs.{Answer, CameTo, Streams, TellsAlone}
use Rattle.carbon_run.specs.Texts.{no_memory_line}

-- Memory ran out before the script. That alone is told, nothing was entered, and the disks of the shards are handed back.
pub record LacksMemory {D : Type 0} {d : Ghosts D} (shards : List (Shard D d)) (streams : Streams) (answer : Answer D) : Type 0 where
  pub tells : TellsAlone 8 no_memory_line answer.status streams.written streams.written'
  pub history : answer.history ≡ []
  pub disks : answer.disks ≡ map (λ shard. shard.files.disk) shards
  pub input : streams.left' ≡ streams.left

-- So it does, or the script runs.
abbrev pub RunsShards : {D : Type 0} {d : Ghosts D} → (ℕ → Option Image) → State → (ℕ → ℕ) → List (Shard D d) → Streams → Answer D → Type 0
RunsShards {D} {d} told start earlier shards streams answer = LacksMemory shards streams answer ⊎ CameTo d told start earlier streams answer

-- The disks of all classes, in order.
use Rattle.std.specs.Prelude.{ℕ, List, Option, option_and_then, slice_get}
use Rattle.std.specs.Option.{option_map_or}
use Rattle.outside_io.specs.Image.{Image}
use Rattle.outside_io.specs.declared.disk.Disk.{Ghosts}
use Rattle.shard_core.specs.declared.shard.Shard.{Shard}

-- what the disk of each class tells
abbrev pub told_of : {D : Type 0} → (D → Option Image) → List D → ℕ → Option Image
told_of image disks k = option_and_then image (slice_get disks k)

-- the same of the disk over which the shard of the class is
abbrev pub told_at : {D : Type 0} {d : Ghosts D} → List (Shard D d) → ℕ → Option Image
told_at {D} {d} shards k = option_and_then (λ shard. d.image shard.files.disk) (slice_get shards k)

-- the count of failed calls of the disk of a class
abbrev pub disk_faults : {D : Type 0} → (D → ℕ) → List D → ℕ → ℕ
disk_faults faults disks k = option_map_or faults (slice_get disks k) 0

-- the same of the disk over which the shard of the class is
abbrev pub faults_at : {D : Type 0} {d : Ghosts D} → List (Shard D d) → ℕ → ℕ
faults_at {D} {d} shards k = option_map_or (λ shard. d.faults shard.files.disk) (slice_get shards k) 0

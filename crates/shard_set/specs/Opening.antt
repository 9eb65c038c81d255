-- What the starts of single shards make of the disks of all classes.
use Rattle.std.specs.Prelude.{◌≡◌, ◌<◌, ◌≤◌, ℕ, Bool, List, [], ◌∷◌, ◌++◌, length, Option, IfSome, IsSomeAnd, slice_get}
use Rattle.outside_io.specs.Image.{Image, WhereKnown}
use Rattle.outside_io.specs.Faults.{Rose}
use Rattle.outside_io.specs.declared.disk.Disk.{Ghosts}
use Rattle.schema_rules.specs.LayoutBy.{layout_by}
use Rattle.carbon_model.specs.RingFiles.{Settings}
use Rattle.shard_core.specs.Opened.{IsOpening, IsSoundDisk, StillOpens}
use Rattle.shard_core.specs.Started.{StartedFrom}
use Rattle.shard_core.specs.StartFaults.{IsDamagedFile, IsDiskFault}
use Rattle.shard_core.specs.declared.fault.StartFault.{StartFault}
use Rattle.shard_core.specs.declared.shard.Shard.{Shard}
use Rattle.shard_set.specs.Disks.{disk_faults, faults_at, told_at, told_of}
use Rattle.shard_set.specs.declared.refused.Refusal.{Refusal}
use Rattle.shard_set.specs.declared.setup.Setup.{Setup}

-- what is fixed for a run that is so set up
abbrev pub settings_of : Setup → Settings
settings_of setup =
    record { rules = layout_by setup.rules; limit = setup.limit; strategy = setup.strategy }

-- each shard started from the disk of its place
abbrev pub AreStarted : {D : Type 0} {d : Ghosts D} → Settings → Bool → List D → List (Shard D d) → Type 0
AreStarted settings redo disks shards =
    (k : ℕ) → IfSome (slice_get shards k) (λ shard.
    IsSomeAnd (slice_get disks k) (λ disk. StartedFrom k settings redo disk shard))

-- no class below this number has a damaged file on a disk that tells its image
abbrev pub AreSound : (ℕ → Option Image) → ℕ → Type 0
AreSound told count = (k : ℕ) → k < count → IfSome (told k) (IsSoundDisk k)

-- All shards started: what an open gate held is laid on their disks, and none of their files is
-- damaged. No count of failed calls fell.
pub record StartsAll {D : Type 0} {d : Ghosts D} (settings : Settings) (redo : Bool) (disks : List D)
    (shards : List (Shard D d)) : Type 0 where
  pub all : length shards ≡ 16
  pub each : AreStarted settings redo disks shards
  pub sound : AreSound (told_at shards) 16
  pub opening : (k : ℕ) → WhereKnown (told_of d.image disks k) (told_at shards k) IsOpening
  pub later : (k : ℕ) → disk_faults d.faults disks k ≤ faults_at shards k

-- A shard was refused, and none of a class before it has a damaged file. All disks are back and open
-- as they did, and the count of failed calls rose of the one that failed.
pub record RefusesAll {D : Type 0} (d : Ghosts D) (disks back : List D) (refusal : Refusal)
    : Type 0 where
  pub class : refusal.class < 16
  pub all : length back ≡ 16
  pub opens : (k : ℕ) → WhereKnown (told_of d.image disks k) (told_of d.image back k) StillOpens
  pub damaged : IsDamagedFile refusal.fault (told_of d.image disks refusal.class) refusal.class
  pub below : AreSound (told_of d.image back) refusal.class
  pub cause : IsDiskFault refusal.fault
      → Rose (disk_faults d.faults disks refusal.class) (disk_faults d.faults back refusal.class)

-- ---- one shard after the other

-- the first disk is that of the next shard
pub record StartsNext {D : Type 0} {d : Ghosts D} (settings : Settings) (redo : Bool) (disks : List D)
    (shards shards' : List (Shard D d)) (disks' : List D) : Type 0 where
  pub disk : D
  pub shard : Shard D d
  pub taken : disks ≡ disk ∷ disks'
  pub more : shards' ≡ shards ++ shard ∷ []
  pub started : StartedFrom (length shards) settings redo disk shard

-- the next shard did not start, and the first disk is back
pub record RefusesNext {D : Type 0} {d : Ghosts D} (fault : StartFault) (disks : List D)
    (shards shards' : List (Shard D d)) (disks' : List D) : Type 0 where
  pub disk : D
  pub back : D
  pub rest : List D
  pub taken : disks ≡ disk ∷ rest
  pub given : disks' ≡ back ∷ rest
  pub none : shards' ≡ shards
  pub opens : WhereKnown (d.image disk) (d.image back) StillOpens
  pub damaged : IsDamagedFile fault (d.image disk) (length shards)
  pub cause : IsDiskFault fault → Rose (d.faults disk) (d.faults back)

-- The same refusal, of any number of disks.
pub record HandsBack {D : Type 0} (d : Ghosts D) (disks back : List D) (refusal : Refusal)
    : Type 0 where
  pub all : length back ≡ length disks
  pub opens : (k : ℕ) → WhereKnown (told_of d.image disks k) (told_of d.image back k) StillOpens
  pub damaged : IsSomeAnd (slice_get disks refusal.class) (λ disk.
      IsDamagedFile refusal.fault (d.image disk) refusal.class)
  pub below : AreSound (told_of d.image back) refusal.class
  pub cause : IsDiskFault refusal.fault
      → Rose (disk_faults d.faults disks refusal.class) (disk_faults d.faults back refusal.class)

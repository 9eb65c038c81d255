-- What the faults of a start tell.
use Rattle.std.specs.Prelude.{◌≤◌, ℕ, Option, IfSome, string_bytes}
use Rattle.outside_io.specs.Crash.{LeavesOnly}
use Rattle.outside_io.specs.Image.{Image, WhereKnown}
use Rattle.outside_io.specs.Faults.{Rose}
use Rattle.outside_io.specs.declared.disk.Disk.{Ghosts}
use Rattle.redo_log.specs.Arm.{LeavesBare}
use Rattle.shard_core.specs.declared.fault.StartFault.{StartFault}
use Rattle.shard_core.specs.declared.fault.StartFault.TheVariants.{Damaged, DiskFault, NoMemory}
use Rattle.shard_core.specs.Opened.{FirstDamaged, IsDamagedBy, StillOpens}
use Rattle.shard_core.specs.StartCrashes.{StartMayLeave}

-- a file that is told as damaged is the first that is, where the disk tells its image
abbrev pub IsDamagedFile : StartFault → Option Image → ℕ → Type 0
IsDamagedFile (Damaged name) known class = IfSome known (λ image. IsDamagedBy class image (string_bytes name))
IsDamagedFile DiskFault known class = Unit {0}
IsDamagedFile NoMemory known class = Unit {0}

abbrev pub IsDiskFault : StartFault → Type 0
IsDiskFault (Damaged name) = ⊥
IsDiskFault DiskFault = Unit {0}
IsDiskFault NoMemory = ⊥

-- the same of ring files alone
abbrev pub IsDamagedRing : StartFault → Option Image → ℕ → Type 0
IsDamagedRing (Damaged name) known class = IfSome known (λ image. FirstDamaged class image (string_bytes name))
IsDamagedRing DiskFault known class = Unit {0}
IsDamagedRing NoMemory known class = Unit {0}

-- a shard did not start: its disk is back and opens as it did, also after a crash, and its count of
-- failed calls rose where it failed
pub record NotStarted {D : Type 0} (d : Ghosts D) (class : ℕ) (disk back : D) (fault : StartFault) : Type 0 where
  pub opens : WhereKnown (d.image disk) (d.image back) StillOpens
  pub damaged : IsDamagedFile fault (d.image disk) class
  pub later : d.faults disk ≤ d.faults back
  pub cause : IsDiskFault fault → Rose (d.faults disk) (d.faults back)
  pub crash : LeavesBare (d.image disk) (d.may_leave disk)
      → LeavesOnly d.moment d.left_since disk back (StartMayLeave (d.image disk) (d.may_leave disk))

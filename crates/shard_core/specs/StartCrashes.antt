-- What a crash may leave of a disk from which a shard is starting.
use Rattle.std.specs.Prelude.{◌≡◌, ◌⊎◌, Bool, true, Option, None, IfSome}
use Rattle.outside_io.specs.Crash.{LeavesOnly}
use Rattle.outside_io.specs.Image.{Image}
use Rattle.outside_io.specs.declared.disk.Disk.{Ghosts}
use Rattle.redo_log.specs.Arm.{LeavesBare, has_byte}
use Rattle.redo_log.specs.Frame.{MayStay}
use Rattle.redo_log.specs.Rows.{InRow}
use Rattle.redo_log.specs.Steps.{gate_name}
use Rattle.shard_core.specs.Opened.{StillOpens}

-- an image that opens as the one before, or one that a crash might have left before, of a disk that may not tell its image
abbrev pub StartMayLeave : Option Image → (Image → Type 0) → Image → Type 0
StartMayLeave known may_leave left = MayStay may_leave left ⊎ IfSome known (λ before. StillOpens before left)

-- a disk that tells its image had a gate
abbrev pub HadGate : Option Image → Type 0
HadGate known = IfSome known (λ image. has_byte (image gate_name) ≡ true)

-- What a start says of crashes: what one at a moment of it leaves, where there was a gate, or all that
-- was written before it was on the device; and that one behind it, where drains go through the log or
-- there was a gate, leaves a closed gate and the rings as they read, whatever one before might have left.
pub record StartCrashes {D : Type 0} (d : Ghosts D) (is_logged : Bool) (old new : D) (ended : Bool) : Type 0 where
  pub leaves : LeavesBare (d.image old) (d.may_leave old)
      → LeavesOnly d.moment d.left_since old new (StartMayLeave (d.image old) (d.may_leave old))
  pub behind : ended ≡ true → (is_logged ≡ true) ⊎ HadGate (d.image old)
      → InRow None (d.image new) (d.may_leave new)

-- What a call leaves that may write to a disk.
use Rattle.std.specs.Prelude.{◌≡◌, ◌≤◌, ◌⊎◌, Option, IfSome}
use Rattle.outside_io.specs.Crash.{Elapses, Follows, LeavesOnly}
use Rattle.outside_io.specs.Faults.{Rose}
use Rattle.outside_io.specs.Image.{Image, SameImage}
use Rattle.outside_io.specs.declared.disk.Disk.{Ghosts as DiskGhosts}
use Rattle.redo_log.specs.Rows.{InRow, MayLeave}
use Rattle.redo_log.specs.Steps.{RedoValue}

-- its count of failed calls did not fall, and rose where the call failed; and time went on: a crash since an earlier moment
-- might have left what it might have left before, or what it may leave now
pub record GoesOn {D : Type 0} (d : DiskGhosts D) (old new : D) (failed : Type 0) : Type 0 where
  pub later : d.faults old ≤ d.faults new
  pub cause : failed → Rose (d.faults old) (d.faults new)
  pub time : Elapses (d.moment old) (d.moment new) (d.left_since old) (d.left_since new) (d.may_leave new)

-- an image of the row before a step, or of the row behind it
abbrev pub InEither : Option RedoValue → Option RedoValue → Option Image → Option Image → Image → Type 0
InEither redo behind a b left = IfSome a (λ now. MayLeave redo now left) ⊎ IfSome b (λ now. MayLeave behind now left)

-- a step that kept to the table: behind it a crash leaves what the row of the next step says, and at each moment of it what
-- that row or its own says
pub record StaysInRows {D : Type 0} (d : DiskGhosts D) (redo behind : Option RedoValue) (old new : D) : Type 0 where
  pub row : InRow behind (d.image new) (d.may_leave new)
  pub leaves : LeavesOnly d.moment d.left_since old new (InEither redo behind (d.image old) (d.image new))

-- an image that a crash might have left before
abbrev pub MayStay : (Image → Type 0) → Image → Type 0
MayStay may_leave left = (before : Image) × may_leave before × SameImage before left

-- calls that change nothing on a disk: it tells what it told, and a crash leaves only what one before might have left
pub record LooksOnly {D : Type 0} (d : DiskGhosts D) (old new : D) (failed : Type 0) : Type 0 where
  pub kept : d.image new ≡ d.image old
  pub later : d.faults old ≤ d.faults new
  pub cause : failed → Rose (d.faults old) (d.faults new)
  pub follows : Follows SameImage (d.may_leave old) (d.may_leave new)
  pub leaves : LeavesOnly d.moment d.left_since old new (MayStay (d.may_leave old))

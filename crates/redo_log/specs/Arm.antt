-- What arming makes of a disk.
use Rattle.std.specs.Prelude.{◌≡◌, ◌≢◌, ◌⊎◌, ℕ, Bool, true, false, nat_lt, List, [], ◌∷◌, length, replicate, slice_get, Option, None, Some, IfSome, Result, Ok, Err}
use Rattle.std.specs.Option.{option_map_or}
use Rattle.outside_io.specs.Crash.{Only}
use Rattle.outside_io.specs.Image.{Image, ChangesOnly, WhereKnown}
use Rattle.redo_log.specs.Body.{numbers_size}
use Rattle.redo_log.specs.Rows.{InRow, KeepsRings, LeavesClosed}
use Rattle.redo_log.specs.Steps.{IsClosed, gate_name, log_name}

-- the gate is not open: it may not be there, or have no bytes
abbrev pub IsShut : Option (List ℕ) → Type 0
IsShut held = IfSome held (λ file. IfSome (slice_get file 0) (λ byte. byte ≢ 1))

-- whether there is a gate, with at least one byte
abbrev pub has_byte : Option (List ℕ) → Bool
has_byte held = option_map_or (λ file. nat_lt 0 (length file)) held false

-- where there is a gate, a crash leaves a closed one and the rings as they read
abbrev pub LeavesGate : Option Image → (Image → Type 0) → Type 0
LeavesGate known may_leave = IfSome known (λ image. has_byte (image gate_name) ≡ true → (left : Image) → may_leave left → LeavesClosed image left)

-- where there is none, it leaves what is read
abbrev pub LeavesBare : Option Image → (Image → Type 0) → Type 0
LeavesBare known may_leave = IfSome known (λ image. has_byte (image gate_name) ≡ false → Only image may_leave)

pub record MayArm (known : Option Image) (may_leave : Image → Type 0) : Type 0 where
  pub armed : LeavesGate known may_leave
  pub bare : LeavesBare known may_leave

-- the gate is closed, and the rings are as before
pub record Arms (before after : Image) : Type 0 where
  pub gate : IsClosed (after gate_name)
  pub rings : KeepsRings before after

-- the log is the body of nothing, and the gate one byte of zero
abbrev pub HasNothing : Image → Type 0
HasNothing image = (image log_name ≡ Some (replicate numbers_size 0)) × (image gate_name ≡ Some (0 ∷ []))

-- both are, where there was no gate
abbrev pub MakesNothing : Image → Image → Type 0
MakesNothing before after = has_byte (before gate_name) ≡ false → HasNothing after

-- a gate that is not open, or the body of nothing in the log, and the rings as they were
pub record LeavesNothing (before left : Image) : Type 0 where
  pub nothing : IsShut (left gate_name) ⊎ (left log_name ≡ Some (replicate numbers_size 0))
  pub rings : KeepsRings before left

-- an image that a crash at some moment of it may leave
abbrev pub LeavesWithin : Option Image → Image → Type 0
LeavesWithin known left = IfSome known (λ before. LeavesNothing before left)

-- an image that a crash might have left before, but for one file
abbrev pub MayChange : (Image → Type 0) → List ℕ → Image → Type 0
MayChange may_leave name left = (before : Image) × may_leave before × ChangesOnly before left name

-- the images before and after
abbrev pub ArmImage : {T E : Type 0} → Result T E → Option Image → Option Image → Type 0
ArmImage (Ok x) a b = WhereKnown a b Arms
ArmImage (Err e) a b = WhereKnown a b LeavesNothing

-- what a crash then may leave
abbrev pub ArmLeaves : {T E : Type 0} → Result T E → Option Image → Option Image → (Image → Type 0) → Type 0
ArmLeaves (Ok x) a b may_leave = InRow None b may_leave
ArmLeaves (Err e) a b may_leave = IfSome a (λ before. (left : Image) → may_leave left → LeavesNothing before left)

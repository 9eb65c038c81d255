-- What a start makes of a disk on which the gate may be open.
use Rattle.std.specs.Prelude.{◌≡◌, ◌≢◌, ◌⊎◌, ◌==◌, ℕ, Bool, true, false, List, [], ◌∷◌, length, slice_get, take, Option, None, Some, IfSome, IsSomeAnd, Result, Ok, Err}
use Rattle.std.specs.Option.{option_map_or}
use Rattle.outside_io.specs.Crash.{LeavesOnly, Only}
use Rattle.outside_io.specs.Image.{Image, SameImage, WhereKnown}
use Rattle.outside_io.specs.declared.disk.Disk.{Ghosts as DiskGhosts}
use Rattle.metric_path.specs.FileName.{file_name_of}
use Rattle.ring_format.specs.Head.{head_bytes}
use Rattle.ring_format.specs.Layout.{LayoutValue}
use Rattle.ring_format.specs.Patch.{PatchValue}
use Rattle.ring_archive.specs.Ring.{IsRingFile, ReadsAs, Rings, UnderPatch, bare}
use Rattle.ring_writer.specs.PartWritten.{StaysRing}
use Rattle.write_shelf.specs.Runs.{runs_of}
use Rattle.write_shelf.specs.Shelf.{drain_with}
use Rattle.write_shelf.specs.declared.run.Run.{Run as ShelfRun}
use Rattle.redo_log.specs.Arm.{has_byte}
use Rattle.redo_log.specs.Body.{IsBody}
use Rattle.redo_log.specs.Frame.{MayStay}
use Rattle.redo_log.specs.Rows.{InRow, KeepsRings}
use Rattle.redo_log.specs.Steps.{IsClosed, IsOpen, RedoValue, gate_name, log_name, on_way}
use Rattle.redo_log.specs.declared.next_step.NextStep.TheVariants.{Run}

-- ---- what an image holds

-- whether the gate is open
abbrev pub is_open : Option (List ℕ) → Bool
is_open held = option_map_or (λ file. option_map_or (λ byte. byte == 1) (slice_get file 0) false) held false

-- the file begins with the head of the layout
abbrev pub HasHead : LayoutValue → List ℕ → Type 0
HasHead layout file = take (length (head_bytes layout)) file ≡ head_bytes layout

-- the file of a patch that is not fresh has the patch's head, and the length that goes with it
abbrev pub HasRing : PatchValue → Image → Type 0
HasRing patch image = patch.fresh ≡ false → IsSomeAnd (image (file_name_of patch.path)) (IsRingFile patch.layout)

-- the log has the body of the patch, or of nothing, and the patch can be laid
pub record Holds (patch : Option PatchValue) (image : Image) : Type 0 where
  pub body : IsSomeAnd (image log_name) (λ bytes. IsBody bytes patch)
  pub ring : IfSome patch (λ p. HasRing p image)

-- the gate is open, and nothing can be laid
pub record IsDamaged (image : Image) : Type 0 where
  pub gate : IsOpen (image gate_name)
  pub none : (patch : Option PatchValue) → Holds patch image → ⊥

-- ---- what stands behind it

-- the file of the patch reads, alone and under the patch, as the file before did under the patch, and all other rings are as
-- before
pub record IsLaid (patch : PatchValue) (before after : Image) : Type 0 where
  pub others : (name : List ℕ) → name ≢ log_name → name ≢ gate_name → name ≢ file_name_of patch.path → after name ≡ before name
  pub whole : IsSomeAnd (after (file_name_of patch.path)) (IsRingFile patch.layout)
  pub reads : (rings : Rings) → UnderPatch patch.fresh (Some before) (file_name_of patch.path) (λ file. ReadsAs patch file rings)
      → IsSomeAnd (after (file_name_of patch.path)) (λ file. ReadsAs (bare patch.path patch.layout) file rings)
  pub again : (rings : Rings) → UnderPatch patch.fresh (Some before) (file_name_of patch.path) (λ file. ReadsAs patch file rings)
      → IsSomeAnd (after (file_name_of patch.path)) (λ file. ReadsAs patch file rings)

-- the rings with the patch laid over them, or with nothing
abbrev pub Lays : Option PatchValue → Image → Image → Type 0
Lays None before after = KeepsRings before after
Lays (Some patch) before after = IsLaid patch before after

-- the open gate and the patch in the log are as before, the rings too but for the file of the patch, and that reads under the
-- patch as before
pub record StillHolds (patch : PatchValue) (before after : Image) : Type 0 where
  pub gate : IsOpen (after gate_name)
  pub log : after log_name ≡ before log_name
  pub others : (name : List ℕ) → name ≢ log_name → name ≢ gate_name → name ≢ file_name_of patch.path → after name ≡ before name
  pub ring : patch.fresh ≡ false → StaysRing patch (file_name_of patch.path) before after

-- the patch is laid, and the gate is closed, or the log is as before
pub record HasLaid (patch : Option PatchValue) (before after : Image) : Type 0 where
  pub rings : Lays patch before after
  pub gate : IsClosed (after gate_name) ⊎ (after log_name ≡ before log_name)

-- the patch can still be laid, or it is
abbrev pub StandsWithin : Option PatchValue → Image → Image → Type 0
StandsWithin None before after = HasLaid None before after
StandsWithin (Some patch) before after = StillHolds patch before after ⊎ HasLaid (Some patch) before after

-- a start over an open gate was stopped
pub record StopsWithin (before after : Image) : Type 0 where
  pub gate : IsOpen (before gate_name)
  pub patch : Option PatchValue
  pub holds : Holds patch before
  pub stands : StandsWithin patch before after

-- an image that opens as the one before: it is the same, or its patch is laid or can still be laid
abbrev pub OpensAs : Image → Image → Type 0
OpensAs before after = SameImage before after ⊎ StopsWithin before after

-- the patch behind the open gate is laid, and the gate is closed
pub record LaysAll (before after : Image) : Type 0 where
  pub gate : IsOpen (before gate_name)
  pub patch : Option PatchValue
  pub holds : Holds patch before
  pub rings : Lays patch before after
  pub closed : IsClosed (after gate_name)

-- ---- a recovery

-- with a gate that is not open nothing is written; else all is laid
abbrev pub Recovers : Image → Image → Type 0
Recovers before after = ((is_open (before gate_name) ≡ false) × SameImage before after) ⊎ LaysAll before after

-- the images before and after: one that failed leaves what opens as before
abbrev pub RecoverEnds : {T E : Type 0} → Result T E → Option Image → Option Image → Type 0
RecoverEnds (Ok x) a b = WhereKnown a b Recovers
RecoverEnds (Err e) a b = WhereKnown a b OpensAs

-- the same behind an open gate
abbrev pub LayEnds : {T E : Type 0} → Result T E → Option Image → Option Image → Type 0
LayEnds (Ok x) a b = WhereKnown a b LaysAll
LayEnds (Err e) a b = WhereKnown a b OpensAs

-- what a crash within it leaves: what one before might have left, or what opens as the image before
abbrev pub RecoverLeaves : Option Image → (Image → Type 0) → Image → Type 0
RecoverLeaves a may_leave left = MayStay may_leave left ⊎ IfSome a (λ before. OpensAs before left)

-- what a recovery says of crashes: at each moment of it, and behind it, where there is a gate
pub record RecoverCrashes {D : Type 0} (d : DiskGhosts D) (old new : D) (ended : Type 0) : Type 0 where
  pub leaves : LeavesOnly d.moment d.left_since old new (RecoverLeaves (d.image old) (d.may_leave old))
  pub behind : ended → IfSome (d.image old) (λ before. has_byte (before gate_name) ≡ true) → InRow None (d.image new) (d.may_leave new)

-- ---- the redo with which it goes on

-- a patch that stands at its first run
abbrev pub at_runs : PatchValue → List ℕ → List ShelfRun → Option RedoValue
at_runs patch name [] = None
at_runs patch name (run ∷ left) = Some (on_way (drain_with patch (run ∷ left)) name Run)

abbrev pub resumed : Option PatchValue → Option RedoValue
resumed None = None
resumed (Some patch) = at_runs patch (file_name_of patch.path) (runs_of patch)

-- the redo of the patch that the image holds
pub record IsHeldBy (known : Option Image) (redo : Option RedoValue) : Type 0 where
  pub patch : Option PatchValue
  pub is : redo ≡ resumed patch
  pub holds : IfSome known (Holds patch)

-- the same behind an open gate
pub record IsBehindGate (known : Option Image) (redo : Option RedoValue) : Type 0 where
  pub gate : IfSome known (λ image. is_open (image gate_name) ≡ true)
  pub held : IsHeldBy known redo

-- none where the gate is not open
abbrev pub IsFound : Option Image → Option (Option RedoValue) → Type 0
IsFound known None = IfSome known (λ image. is_open (image gate_name) ≡ false)
IsFound known (Some redo) = IsBehindGate known redo

-- a crash leaves what is read, where there is a gate
abbrev pub IsSettled : Option Image → (Image → Type 0) → Type 0
IsSettled known may_leave = IfSome known (λ image. has_byte (image gate_name) ≡ true → Only image may_leave)

-- A patch on its way through the log to its file, step by step: what each step does to the disk, and what stands there before it.
use Rattle.std.specs.Prelude.{◌≡◌, ◌≢◌, ◌⊎◌, ℕ, ◌+◌, ◌≤◌, ◌==◌, Bool, true, false, ◌&&◌, ⊤, List, [], ◌∷◌, ◌++◌, length, take, slice_get, All, Option, None, Some, IfSome, IsSomeAnd, Result, Ok, Err, if◌then◌else◌, codes}
use Rattle.outside_io.specs.Image.{Image, ChangesOnly, Creates, SameImage, Tears, WhereKnown, Writes}
use Rattle.outside_io.specs.declared.disk.DiskFailed.{DiskFailed}
use Rattle.metric_path.specs.FileName.{file_name_of}
use Rattle.ring_format.specs.Patch.{PatchValue}
use Rattle.ring_writer.specs.PartWritten.{Awaits, FailsNext, WritesNext}
use Rattle.write_shelf.specs.Shelf.{DrainValue, IsBegun, IsRunOf, OfNext, marked}
use Rattle.redo_log.specs.Body.{Fits, body_bytes, entries_bytes, leading_bytes}
use Rattle.redo_log.specs.declared.next_step.NextStep.{NextStep}
use Rattle.redo_log.specs.declared.next_step.NextStep.TheVariants.{CreateLog, FirstPiece, Piece, SyncBody, OpenGate, SyncOpen, Run, SyncRuns, CloseGate, SyncClose}

-- the names of the log and of the gate
unfoldable pub log_name : List ℕ
log_name = codes "redo.log"

unfoldable pub gate_name : List ℕ
gate_name = codes "redo.gate"

-- A patch on its way: the runs that are left, the name of its file, and the next step. Behind the last run the drain stays with
-- that run until the last step.
pub record RedoValue : Type 0 where
  pub drain : Option DrainValue
  pub name : List ℕ
  pub next : NextStep

abbrev pub on_way : Option DrainValue → List ℕ → NextStep → RedoValue
on_way drain name next = record { drain = drain; name = name; next = next }

-- ---- the order of the steps

-- the step behind a piece, by how many cells are written
abbrev pub behind_cells : PatchValue → ℕ → NextStep
behind_cells patch written = if written == length patch.cells then SyncBody else Piece written

-- a piece has at least so many cells, or all that are left
abbrev pub piece_cells : ℕ
piece_cells = 90

-- a piece goes on from so many cells to more
pub record IsPieceOn (patch : PatchValue) (from : ℕ) (behind : Option NextStep) : Type 0 where
  pub written : ℕ
  pub within : written ≤ length patch.cells
  pub more : (from + piece_cells ≤ written) ⊎ (written ≡ length patch.cells)
  pub is : behind ≡ Some (behind_cells patch written)

abbrev pub behind_run : DrainValue → NextStep
behind_run drain = if length drain.left == 1 then SyncRuns else Run

-- the step that comes behind one; none behind the last
abbrev pub ComesBehind : DrainValue → NextStep → Option NextStep → Type 0
ComesBehind drain CreateLog behind = behind ≡ Some FirstPiece
ComesBehind drain FirstPiece behind = IsPieceOn drain.patch 0 behind
ComesBehind drain (Piece written) behind = IsPieceOn drain.patch written behind
ComesBehind drain SyncBody behind = behind ≡ Some OpenGate
ComesBehind drain OpenGate behind = behind ≡ Some SyncOpen
ComesBehind drain SyncOpen behind = behind ≡ Some Run
ComesBehind drain Run behind = behind ≡ Some (behind_run drain)
ComesBehind drain SyncRuns behind = behind ≡ Some CloseGate
ComesBehind drain CloseGate behind = behind ≡ Some SyncClose
ComesBehind drain SyncClose behind = behind ≡ None

abbrev pub is_run : NextStep → Bool
is_run CreateLog = false
is_run FirstPiece = false
is_run (Piece written) = false
is_run SyncBody = false
is_run OpenGate = false
is_run SyncOpen = false
is_run Run = true
is_run SyncRuns = false
is_run CloseGate = false
is_run SyncClose = false

-- the redo with that step as its next: a run that was written is marked where another comes behind it
abbrev pub with_next : RedoValue → NextStep → RedoValue
with_next redo next = record {
  drain = if is_run next && is_run redo.next then marked redo.drain else redo.drain;
  name = redo.name;
  next = next;
}

-- each cell that was written fits
abbrev pub HasWritten : PatchValue → NextStep → Type 0
HasWritten patch CreateLog = ⊤
HasWritten patch FirstPiece = ⊤
HasWritten patch (Piece written) = (written ≤ length patch.cells) × All Fits (take written patch.cells)
HasWritten patch SyncBody = All Fits patch.cells
HasWritten patch OpenGate = All Fits patch.cells
HasWritten patch SyncOpen = All Fits patch.cells
HasWritten patch Run = All Fits patch.cells
HasWritten patch SyncRuns = All Fits patch.cells
HasWritten patch CloseGate = All Fits patch.cells
HasWritten patch SyncClose = All Fits patch.cells

-- the name is that of the patch's file
abbrev pub IsNamed : Option DrainValue → List ℕ → Type 0
IsNamed shelf name = IfSome shelf (λ drain. name ≡ file_name_of drain.patch.path)

-- a redo with a patch: the name is that of its file, and the next run is one of the patch's
pub record IsGoing (redo : RedoValue) : Type 0 where
  pub some : redo.drain ≢ None
  pub named : IsNamed redo.drain redo.name
  pub sound : OfNext redo.drain IsRunOf
  pub begun : IfSome redo.drain IsBegun

-- the steps that sync, and those that set the gate's byte
abbrev pub IsSyncStep : NextStep → Option NextStep → Type 0
IsSyncStep CreateLog behind = ⊥
IsSyncStep FirstPiece behind = ⊥
IsSyncStep (Piece written) behind = ⊥
IsSyncStep SyncBody behind = behind ≡ Some OpenGate
IsSyncStep OpenGate behind = ⊥
IsSyncStep SyncOpen behind = behind ≡ Some Run
IsSyncStep Run behind = ⊥
IsSyncStep SyncRuns behind = behind ≡ Some CloseGate
IsSyncStep CloseGate behind = ⊥
IsSyncStep SyncClose behind = behind ≡ None

abbrev pub IsGateStep : ℕ → NextStep → Option NextStep → Type 0
IsGateStep byte CreateLog behind = ⊥
IsGateStep byte FirstPiece behind = ⊥
IsGateStep byte (Piece written) behind = ⊥
IsGateStep byte SyncBody behind = ⊥
IsGateStep byte OpenGate behind = (byte ≡ 1) × (behind ≡ Some SyncOpen)
IsGateStep byte SyncOpen behind = ⊥
IsGateStep byte Run behind = ⊥
IsGateStep byte SyncRuns behind = ⊥
IsGateStep byte CloseGate behind = (byte ≡ 0) × (behind ≡ Some SyncClose)
IsGateStep byte SyncClose behind = ⊥

-- a step leads to the one behind it, for which all is written
abbrev pub Leads : DrainValue → NextStep → Option NextStep → Type 0
Leads drain now behind = ComesBehind drain now behind × IfSome behind (HasWritten drain.patch)

-- ---- what stands on the disk

-- the body before the cells behind so many
unfoldable pub body_front : PatchValue → ℕ → List ℕ
body_front patch written = leading_bytes patch ++ entries_bytes (take written patch.cells)

-- the file has the body's length, and begins with these bytes
pub record BeginsWith (patch : PatchValue) (bytes file : List ℕ) : Type 0 where
  pub long : length file ≡ length (body_bytes patch)
  pub front : take (length bytes) file ≡ bytes

-- the log, by the next step
abbrev pub HasLog : PatchValue → NextStep → Option (List ℕ) → Type 0
HasLog patch CreateLog held = ⊤
HasLog patch FirstPiece held = IsSomeAnd held (BeginsWith patch [])
HasLog patch (Piece written) held = IsSomeAnd held (BeginsWith patch (body_front patch written))
HasLog patch SyncBody held = held ≡ Some (body_bytes patch)
HasLog patch OpenGate held = held ≡ Some (body_bytes patch)
HasLog patch SyncOpen held = held ≡ Some (body_bytes patch)
HasLog patch Run held = held ≡ Some (body_bytes patch)
HasLog patch SyncRuns held = held ≡ Some (body_bytes patch)
HasLog patch CloseGate held = held ≡ Some (body_bytes patch)
HasLog patch SyncClose held = held ≡ Some (body_bytes patch)

-- the gate is open where its first byte is 1
abbrev pub IsOpen : Option (List ℕ) → Type 0
IsOpen held = IsSomeAnd held (λ file. slice_get file 0 ≡ Some 1)

-- there is a gate, with at least one byte, and that is not 1
abbrev pub IsClosed : Option (List ℕ) → Type 0
IsClosed held = IsSomeAnd held (λ file. IsSomeAnd (slice_get file 0) (λ byte. byte ≢ 1))

-- there is a gate, with at least one byte
abbrev pub IsGate : Option (List ℕ) → Type 0
IsGate held = IsSomeAnd held (λ file. 1 ≤ length file)

-- the gate, by the next step
abbrev pub HasGate : NextStep → Option (List ℕ) → Type 0
HasGate CreateLog held = IsClosed held
HasGate FirstPiece held = IsClosed held
HasGate (Piece written) held = IsClosed held
HasGate SyncBody held = IsClosed held
HasGate OpenGate held = IsGate held
HasGate SyncOpen held = IsOpen held
HasGate Run held = IsOpen held
HasGate SyncRuns held = IsOpen held
HasGate CloseGate held = IsGate held
HasGate SyncClose held = IsClosed held

-- the file of the patch, by the next step: as far written as the runs that are left need
abbrev pub HasFile : DrainValue → NextStep → Option (List ℕ) → Type 0
HasFile drain CreateLog held = Awaits drain.patch drain.left held
HasFile drain FirstPiece held = Awaits drain.patch drain.left held
HasFile drain (Piece written) held = Awaits drain.patch drain.left held
HasFile drain SyncBody held = Awaits drain.patch drain.left held
HasFile drain OpenGate held = Awaits drain.patch drain.left held
HasFile drain SyncOpen held = Awaits drain.patch drain.left held
HasFile drain Run held = Awaits drain.patch drain.left held
HasFile drain SyncRuns held = Awaits drain.patch [] held
HasFile drain CloseGate held = Awaits drain.patch [] held
HasFile drain SyncClose held = Awaits drain.patch [] held

-- what a redo with that next step needs of the disk
pub record Stands (drain : DrainValue) (name : List ℕ) (next : NextStep) (image : Image) : Type 0 where
  pub log : HasLog drain.patch next (image log_name)
  pub gate : HasGate next (image gate_name)
  pub file : HasFile drain next (image name)

abbrev pub IsReady : RedoValue → Image → Type 0
IsReady redo image = IfSome redo.drain (λ drain. Stands drain redo.name redo.next image)

-- ---- what a step does to the disk

-- a piece of the body is written into the log, behind these bytes of it
pub record PutsPiece (patch : PatchValue) (before_bytes : List ℕ) (behind : Option NextStep) (before after : Image) : Type 0 where
  pub piece : List ℕ
  pub few : length piece ≤ 4096
  pub written : ℕ
  pub is : behind ≡ Some (behind_cells patch written)
  pub body : before_bytes ++ piece ≡ body_front patch written
  pub puts : Writes before after log_name (length before_bytes) piece

-- the call of the disk that a step makes, where it succeeds
abbrev pub Calls : DrainValue → List ℕ → NextStep → Option NextStep → Image → Image → Type 0
Calls drain name CreateLog behind before after = Creates before after log_name (length (body_bytes drain.patch))
Calls drain name FirstPiece behind before after = PutsPiece drain.patch [] behind before after
Calls drain name (Piece written) behind before after = PutsPiece drain.patch (body_front drain.patch written) behind before after
Calls drain name SyncBody behind before after = SameImage before after
Calls drain name OpenGate behind before after = Writes before after gate_name 0 (1 ∷ [])
Calls drain name SyncOpen behind before after = SameImage before after
Calls drain name Run behind before after = WritesNext (Some drain) name before after
Calls drain name SyncRuns behind before after = SameImage before after
Calls drain name CloseGate behind before after = Writes before after gate_name 0 (0 ∷ [])
Calls drain name SyncClose behind before after = SameImage before after

-- the bytes of the piece that was to be written may be any
pub record TearsPiece (before_bytes : List ℕ) (before after : Image) : Type 0 where
  pub count : ℕ
  pub few : count ≤ 4096
  pub tears : Tears before after log_name (length before_bytes) count

-- what a step may do to it at most, and what it has done where it fails
abbrev pub Touches : DrainValue → List ℕ → NextStep → Image → Image → Type 0
Touches drain name CreateLog before after = ChangesOnly before after log_name
Touches drain name FirstPiece before after = TearsPiece [] before after
Touches drain name (Piece written) before after = TearsPiece (body_front drain.patch written) before after
Touches drain name SyncBody before after = SameImage before after
Touches drain name OpenGate before after = Tears before after gate_name 0 1
Touches drain name SyncOpen before after = SameImage before after
Touches drain name Run before after = FailsNext (Some drain) name before after
Touches drain name SyncRuns before after = SameImage before after
Touches drain name CloseGate before after = Tears before after gate_name 0 1
Touches drain name SyncClose before after = SameImage before after

-- ---- the end of a step

-- the step was taken: its call was made, and that step comes behind it, for which the disk is ready
pub record Taken (redo : RedoValue) (behind : Option NextStep) (before after : Image) : Type 0 where
  pub calls : IfSome redo.drain (λ drain. Calls drain redo.name redo.next behind before after)
  pub ready : IfSome behind (λ next. IsReady (with_next redo next) after)

-- it was not, and may be taken again
pub record Failed (redo : RedoValue) (before after : Image) : Type 0 where
  pub touches : IfSome redo.drain (λ drain. Touches drain redo.name redo.next before after)
  pub ready : IsReady redo after

-- how a step ends: taken, and the step behind it; or failed
abbrev pub StepEnds : RedoValue → Result (Option NextStep) DiskFailed → Option Image → Option Image → Type 0
StepEnds redo (Ok behind) a b = WhereKnown a b (Taken redo behind) × IfSome redo.drain (λ drain. Leads drain redo.next behind)
StepEnds redo (Err fault) a b = WhereKnown a b (Failed redo)

-- what holds of a patch on its way
pub record IsOnWay (shelf : Option DrainValue) (name : List ℕ) (next : NextStep) : Type 0 where
  pub some : shelf ≢ None
  pub named : IsNamed shelf name
  pub written : IfSome shelf (λ drain. HasWritten drain.patch next)

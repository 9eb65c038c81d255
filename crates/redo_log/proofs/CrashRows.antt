-- Each call of the disk but that of a run keeps to the row of its step.
use Rattle.std.proofs.Common.{◌≡◌, ◌≢◌, ◌∙◌, ℕ, Bool, true, false, cond, ◌==◌, List, length, All, Option, None, Some, IfSome, refl, sym, subst}
use Rattle.outside_io.specs.Crash.{Follows, OnlyKnown}
use Rattle.outside_io.specs.Image.{Image, ChangesOnly, SameImage, Tears, WhereKnown}
use Rattle.metric_path.specs.FileName.{file_name_of}
use Rattle.ring_format.specs.Patch.{PatchValue}
use Rattle.write_shelf.specs.Shelf.{DrainValue}
use Rattle.redo_log.specs.Body.{Fits, IsSound}
use Rattle.redo_log.specs.Rows.{InRow, KeepsRings, LeavesBy, LeavesClosed, LeavesEither, LeavesOpen, MayLeave, goes_on}
use Rattle.redo_log.specs.Steps.{HasWritten, IsClosed, IsGate, IsGateStep, IsNamed, IsOpen, IsReady, IsSyncStep, Stands, behind_cells, gate_name, is_run, log_name, on_way, with_next}
use Rattle.redo_log.specs.declared.next_step.NextStep.{NextStep}
use Rattle.redo_log.specs.declared.next_step.NextStep.TheVariants.{CreateLog, FirstPiece, Piece, SyncBody, OpenGate, SyncOpen, Run, SyncRuns, CloseGate, SyncClose}
use Rattle.redo_log.proofs.RunRows.{stays_both, stays_same}
use Rattle.redo_log.proofs.StepLemmas.{closed_is_gate, gate_is_no_log, gate_torn, log_is_no_gate, open_is_gate}

-- only the log changed
closed_log : (x y : Image) (old new : Image → Type 0) → ChangesOnly x y log_name → Follows (λ u v. ChangesOnly u v log_name) old new → ((left : Image) → old left → LeavesClosed x left) → (left : Image) → new left → LeavesClosed y left
closed_log x y old new only follows row left now =
    let step = follows left now in
    let was = row step.0 step.1 in
    record {
      gate = subst IsClosed (sym (step.2 gate_name gate_is_no_log)) was.gate;
      rings = λ name no_log no_gate. step.2 name no_log ∙ was.rings name no_log no_gate ∙ sym (only name no_log);
    }

-- only the gate's byte changed
either_gate : (patch : PatchValue) (x y : Image) (old new : Image → Type 0) → ChangesOnly x y gate_name → Follows (λ u v. Tears u v gate_name 0 1) old new → ((left : Image) → old left → LeavesEither patch x left)
    → (left : Image) → new left → LeavesEither patch y left
either_gate patch x y old new only follows row left now =
    let step = follows left now in
    let was = row step.0 step.1 in
    record {
      sound = was.sound;
      log = step.2.1 log_name log_is_no_gate ∙ was.log;
      gate = gate_torn (step.0 gate_name) (left gate_name) was.gate step.2.0;
      rings = λ name no_log no_gate. step.2.1 name no_gate ∙ was.rings name no_log no_gate ∙ sym (only name no_gate);
    }

tears_only : (name : List ℕ) (at count : ℕ) (old new : Image → Type 0) → Follows (λ u v. Tears u v name at count) old new → Follows (λ u v. ChangesOnly u v name) old new
tears_only name at count old new follows left now = let step = follows left now in (step.0, step.1, step.2.1)

-- a row that is one of the first four keeps its form
closed_row : (drain : DrainValue) (name : List ℕ) (b : Bool) (written : ℕ) (now : NextStep) (y left : Image) → is_run now ≡ false → LeavesClosed y left → MayLeave (Some (with_next (on_way (Some drain) name now) (cond b SyncBody (Piece written)))) y left
closed_row drain name true written now y left run row = row
closed_row drain name false written now y left run row = row

-- the log was created or not
pub created_row : (shelf : Option DrainValue) (name : List ℕ) (x y : Option Image) (old new : Image → Type 0) (P : Image → Image → Type 0) → shelf ≢ None → ((u v : Image) → P u v → ChangesOnly u v log_name) → WhereKnown x y P
    → Follows (λ u v. ChangesOnly u v log_name) old new → InRow (Some (on_way shelf name CreateLog)) x old → InRow (Some (on_way shelf name FirstPiece)) y new × InRow (Some (on_way shelf name CreateLog)) y new
created_row None name x y old new P some only call follows row = absurd (some refl)
created_row (Some drain) name None None old new P some only call follows row = (tt, tt)
created_row (Some drain) name None (Some y) old new P some only call follows row = absurd call
created_row (Some drain) name (Some x) None old new P some only call follows row = absurd call
created_row (Some drain) name (Some x) (Some y) old new P some only call follows row =
    let is = closed_log x y old new (only x y call) follows row in
    (is, is)

-- a piece was written or not
pub piece_row : (shelf : Option DrainValue) (name : List ℕ) (now : NextStep) (written at count : ℕ) (patch : PatchValue) (x y : Option Image) (old new : Image → Type 0) (P : Image → Image → Type 0) → shelf ≢ None
    → IfSome shelf (λ drain. (left : Image) (y : Image) → LeavesBy drain.patch name now y left → LeavesClosed y left) → IfSome shelf (λ drain. (left : Image) (y : Image) → LeavesClosed y left → LeavesBy drain.patch name now y left) → is_run now ≡ false
    → ((u v : Image) → P u v → ChangesOnly u v log_name) → WhereKnown x y P → Follows (λ u v. Tears u v log_name at count) old new → InRow (Some (on_way shelf name now)) x old
    → InRow (Some (with_next (on_way shelf name now) (behind_cells patch written))) y new × InRow (Some (on_way shelf name now)) y new
piece_row None name now written at count patch x y old new P some first back run only call follows row = absurd (some refl)
piece_row (Some drain) name now written at count patch None None old new P some first back run only call follows row = (tt, tt)
piece_row (Some drain) name now written at count patch None (Some y) old new P some first back run only call follows row = absurd call
piece_row (Some drain) name now written at count patch (Some x) None old new P some first back run only call follows row = absurd call
piece_row (Some drain) name now written at count patch (Some x) (Some y) old new P some first back run only call follows row =
    let is = closed_log x y old new (only x y call) (tears_only log_name at count old new follows) (λ left was. first left x (row left was)) in
    (λ left may. closed_row drain name (written == length patch.cells) written now y left run (is left may), λ left may. back left y (is left may))

-- ---- a sync

same_rings : (x left : Image) → SameImage x left → KeepsRings x left
same_rings x left same = λ name no_log no_gate. same name

synced_left : (drain : DrainValue) (name : List ℕ) (now : NextStep) (behind : Option NextStep) (x left : Image) → IsSound drain.patch → name ≡ file_name_of drain.patch.path → IsSyncStep now behind → Stands drain name now x → SameImage x left → MayLeave (goes_on (on_way (Some drain) name now) behind) x left
synced_left drain name CreateLog behind x left sound named step s same = absurd step
synced_left drain name FirstPiece behind x left sound named step s same = absurd step
synced_left drain name (Piece written) behind x left sound named step s same = absurd step
synced_left drain name SyncBody behind x left sound named step s same =
    subst (λ (o : Option NextStep). MayLeave (goes_on (on_way (Some drain) name SyncBody) o) x left) (sym step)
    (record { sound = sound; log = same log_name ∙ s.log; gate = subst IsGate (sym (same gate_name)) (closed_is_gate (x gate_name) s.gate); rings = same_rings x left same })
synced_left drain name OpenGate behind x left sound named step s same = absurd step
synced_left drain name SyncOpen behind x left sound named step s same =
    subst (λ (o : Option NextStep). MayLeave (goes_on (on_way (Some drain) name SyncOpen) o) x left) (sym step)
    (record {
      sound = sound;
      named = named;
      log = same log_name ∙ s.log;
      gate = subst IsOpen (sym (same gate_name)) s.gate;
      others = λ other no_log no_gate no_file. same other;
      ring = λ over whole. stays_same drain.patch name x left (same name) whole;
    })
synced_left drain name Run behind x left sound named step s same = absurd step
synced_left drain name SyncRuns behind x left sound named step s same =
    subst (λ (o : Option NextStep). MayLeave (goes_on (on_way (Some drain) name SyncRuns) o) x left) (sym step)
    (record { sound = sound; log = same log_name ∙ s.log; gate = subst IsGate (sym (same gate_name)) (open_is_gate (x gate_name) s.gate); rings = same_rings x left same })
synced_left drain name CloseGate behind x left sound named step s same = absurd step
synced_left drain name SyncClose behind x left sound named step s same =
    subst (λ (o : Option NextStep). MayLeave (goes_on (on_way (Some drain) name SyncClose) o) x left) (sym step)
    (record { gate = subst IsClosed (sym (same gate_name)) s.gate; rings = same_rings x left same })

-- where a step syncs, each cell fits
fits_at : (patch : PatchValue) (now : NextStep) (behind : Option NextStep) → IsSyncStep now behind → HasWritten patch now → All Fits patch.cells
fits_at patch CreateLog behind step written = absurd step
fits_at patch FirstPiece behind step written = absurd step
fits_at patch (Piece count) behind step written = absurd step
fits_at patch SyncBody behind step written = written
fits_at patch OpenGate behind step written = absurd step
fits_at patch SyncOpen behind step written = written
fits_at patch Run behind step written = absurd step
fits_at patch SyncRuns behind step written = written
fits_at patch CloseGate behind step written = absurd step
fits_at patch SyncClose behind step written = written

pub sync_fits : (shelf : Option DrainValue) (now : NextStep) (behind : Option NextStep) (patch : PatchValue) → shelf ≢ None → IsSyncStep now behind → IfSome shelf (λ drain. HasWritten drain.patch now) → IfSome shelf (λ drain. patch ≡ drain.patch) → All Fits patch.cells
sync_fits None now behind patch some step written is = absurd (some refl)
sync_fits (Some drain) now behind patch some step written is = fits_at patch now behind step (subst (λ (p : PatchValue). HasWritten p now) (sym is) written)

pub sound_named : (shelf : Option DrainValue) (name : List ℕ) (patch : PatchValue) → IfSome shelf (λ drain. patch ≡ drain.patch) → IsSound patch → IsNamed shelf name → IfSome shelf (λ drain. IsSound drain.patch × (name ≡ file_name_of drain.patch.path))
sound_named None name patch is sound named = tt
sound_named (Some drain) name patch is sound named = (subst IsSound is sound, named)

pub synced_row : (shelf : Option DrainValue) (name : List ℕ) (now : NextStep) (behind : Option NextStep) (x y : Option Image) (new : Image → Type 0) → shelf ≢ None → IfSome shelf (λ drain. IsSound drain.patch × (name ≡ file_name_of drain.patch.path)) → IsSyncStep now behind → IfSome x (IsReady (on_way shelf name now)) → y ≡ x
    → OnlyKnown y new → InRow (goes_on (on_way shelf name now) behind) y new
synced_row None name now behind x y new some sound step ready kept only = absurd (some refl)
synced_row (Some drain) name now behind x y new some sound step ready kept only =
    subst (λ (o : Option Image). OnlyKnown o new → InRow (goes_on (on_way (Some drain) name now) behind) o new) (sym kept) (by x ready) only
  where
    by : (x : Option Image) → IfSome x (IsReady (on_way (Some drain) name now)) → OnlyKnown x new → InRow (goes_on (on_way (Some drain) name now) behind) x new
    by None ready only = tt
    by (Some x) ready only = λ left may. synced_left drain name now behind x left sound.0 sound.1 step ready (only left may)

-- a sync that failed
same_open : (patch : PatchValue) (name : List ℕ) (x before left : Image) → SameImage before left → LeavesOpen patch name x before → LeavesOpen patch name x left
same_open patch name x before left same row = record {
  sound = row.sound;
  named = row.named;
  log = same log_name ∙ row.log;
  gate = subst IsOpen (sym (same gate_name)) row.gate;
  others = λ other a b c. same other ∙ row.others other a b c;
  ring = λ over whole. let was = row.ring over whole in stays_both patch name x before left was (stays_same patch name before left (same name) was.whole);
}

same_by : (patch : PatchValue) (name : List ℕ) (now : NextStep) (x before left : Image) → SameImage before left → LeavesBy patch name now x before → LeavesBy patch name now x left
same_by patch name CreateLog x before left same row = record { gate = subst IsClosed (sym (same gate_name)) row.gate; rings = λ other a b. same other ∙ row.rings other a b }
same_by patch name FirstPiece x before left same row = record { gate = subst IsClosed (sym (same gate_name)) row.gate; rings = λ other a b. same other ∙ row.rings other a b }
same_by patch name (Piece written) x before left same row = record { gate = subst IsClosed (sym (same gate_name)) row.gate; rings = λ other a b. same other ∙ row.rings other a b }
same_by patch name SyncBody x before left same row = record { gate = subst IsClosed (sym (same gate_name)) row.gate; rings = λ other a b. same other ∙ row.rings other a b }
same_by patch name OpenGate x before left same row = record { sound = row.sound; log = same log_name ∙ row.log; gate = subst IsGate (sym (same gate_name)) row.gate; rings = λ other a b. same other ∙ row.rings other a b }
same_by patch name SyncOpen x before left same row = record { sound = row.sound; log = same log_name ∙ row.log; gate = subst IsGate (sym (same gate_name)) row.gate; rings = λ other a b. same other ∙ row.rings other a b }
same_by patch name Run x before left same row = same_open patch name x before left same row
same_by patch name SyncRuns x before left same row = same_open patch name x before left same row
same_by patch name CloseGate x before left same row = record { sound = row.sound; log = same log_name ∙ row.log; gate = subst IsGate (sym (same gate_name)) row.gate; rings = λ other a b. same other ∙ row.rings other a b }
same_by patch name SyncClose x before left same row = record { sound = row.sound; log = same log_name ∙ row.log; gate = subst IsGate (sym (same gate_name)) row.gate; rings = λ other a b. same other ∙ row.rings other a b }

pub not_synced_row : (shelf : Option DrainValue) (name : List ℕ) (now : NextStep) (x y : Option Image) (old new : Image → Type 0) → shelf ≢ None → y ≡ x → Follows SameImage old new → InRow (Some (on_way shelf name now)) x old
    → InRow (Some (on_way shelf name now)) y new
not_synced_row None name now x y old new some kept follows row = absurd (some refl)
not_synced_row (Some drain) name now x y old new some kept follows row = subst (λ (o : Option Image). InRow (Some (on_way (Some drain) name now)) o new) (sym kept) (by x row)
  where
    by : (x : Option Image) → InRow (Some (on_way (Some drain) name now)) x old → InRow (Some (on_way (Some drain) name now)) x new
    by None row = tt
    by (Some x) row = λ left may. let step = follows left may in same_by drain.patch name now x step.0 left step.2 (row step.0 step.1)

-- ---- the gate

gate_left : (drain : DrainValue) (name : List ℕ) (byte : ℕ) (now : NextStep) (behind : Option NextStep) (x y : Image) (old new : Image → Type 0) → IsGateStep byte now behind → ChangesOnly x y gate_name
    → Follows (λ u v. Tears u v gate_name 0 1) old new → ((left : Image) → old left → LeavesBy drain.patch name now x left)
    → ((left : Image) → new left → MayLeave (goes_on (on_way (Some drain) name now) behind) y left) × ((left : Image) → new left → LeavesBy drain.patch name now y left)
gate_left drain name byte CreateLog behind x y old new step only follows row = absurd step
gate_left drain name byte FirstPiece behind x y old new step only follows row = absurd step
gate_left drain name byte (Piece written) behind x y old new step only follows row = absurd step
gate_left drain name byte SyncBody behind x y old new step only follows row = absurd step
gate_left drain name byte OpenGate behind x y old new step only follows row =
    let is = either_gate drain.patch x y old new only follows row in
    (subst (λ (o : Option NextStep). (left : Image) → new left → MayLeave (goes_on (on_way (Some drain) name OpenGate) o) y left) (sym step.1) is, is)
gate_left drain name byte SyncOpen behind x y old new step only follows row = absurd step
gate_left drain name byte Run behind x y old new step only follows row = absurd step
gate_left drain name byte SyncRuns behind x y old new step only follows row = absurd step
gate_left drain name byte CloseGate behind x y old new step only follows row =
    let is = either_gate drain.patch x y old new only follows row in
    (subst (λ (o : Option NextStep). (left : Image) → new left → MayLeave (goes_on (on_way (Some drain) name CloseGate) o) y left) (sym step.1) is, is)
gate_left drain name byte SyncClose behind x y old new step only follows row = absurd step

pub gate_row : (shelf : Option DrainValue) (name : List ℕ) (byte : ℕ) (now : NextStep) (behind : Option NextStep) (x y : Option Image) (old new : Image → Type 0) (P : Image → Image → Type 0) → shelf ≢ None → IsGateStep byte now behind
    → ((u v : Image) → P u v → ChangesOnly u v gate_name) → WhereKnown x y P → Follows (λ u v. Tears u v gate_name 0 1) old new → InRow (Some (on_way shelf name now)) x old
    → InRow (goes_on (on_way shelf name now) behind) y new × InRow (Some (on_way shelf name now)) y new
gate_row None name byte now behind x y old new P some step only call follows row = absurd (some refl)
gate_row (Some drain) name byte now behind None None old new P some step only call follows row = (tt, tt)
gate_row (Some drain) name byte now behind None (Some y) old new P some step only call follows row = absurd call
gate_row (Some drain) name byte now behind (Some x) None old new P some step only call follows row = absurd call
gate_row (Some drain) name byte now behind (Some x) (Some y) old new P some step only call follows row = gate_left drain name byte now behind x y old new step (only x y call) follows row

pub closed_first : (shelf : Option DrainValue) (name : List ℕ) → IfSome shelf (λ drain. (left : Image) (y : Image) → LeavesBy drain.patch name FirstPiece y left → LeavesClosed y left)
closed_first None name = tt
closed_first (Some drain) name = λ left y row. row

pub first_closed : (shelf : Option DrainValue) (name : List ℕ) → IfSome shelf (λ drain. (left : Image) (y : Image) → LeavesClosed y left → LeavesBy drain.patch name FirstPiece y left)
first_closed None name = tt
first_closed (Some drain) name = λ left y row. row

pub closed_next : (shelf : Option DrainValue) (name : List ℕ) (written : ℕ) → IfSome shelf (λ drain. (left : Image) (y : Image) → LeavesBy drain.patch name (Piece written) y left → LeavesClosed y left)
closed_next None name written = tt
closed_next (Some drain) name written = λ left y row. row

pub next_closed : (shelf : Option DrainValue) (name : List ℕ) (written : ℕ) → IfSome shelf (λ drain. (left : Image) (y : Image) → LeavesClosed y left → LeavesBy drain.patch name (Piece written) y left)
next_closed None name written = tt
next_closed (Some drain) name written = λ left y row. row

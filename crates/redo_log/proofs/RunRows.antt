-- The call for a run keeps to the row of its step.
use Rattle.std.proofs.Common.{◌≡◌, ◌≢◌, ◌∙◌, ℕ, Bool, true, false, cond, ◌==◌, List, [], ◌∷◌, length, drop, slice_get, Option, None, Some, IfSome, IsSomeAnd, inl, refl, sym, subst}
use Rattle.outside_io.specs.Crash.{Follows}
use Rattle.outside_io.specs.Image.{Image, ChangesOnly, WhereKnown}
use Rattle.ring_format.specs.Patch.{PatchValue}
use Rattle.ring_archive.specs.Ring.{IsRingFile, ReadsAs, Rings, UnderPatch, value_of}
use Rattle.ring_writer.specs.PartWritten.{Awaits, ComesTo, CrashesNext, FailsNext, IsPartWritten, RunCrashed, StaysRing, TearsRun, WritesNext}
use Rattle.ring_writer.proofs.PartLemmas.{not_both}
use Rattle.write_shelf.specs.Shelf.{DrainValue, IsRunOf, OfNext, drain_with}
use Rattle.write_shelf.specs.declared.run.Run.{Run as ShelfRun}
use Rattle.write_shelf.specs.declared.run.Run.TheVariants.{Create, Cells, Head}
use Rattle.redo_log.specs.Rows.{InRow, LeavesOpen, MayLeave}
use Rattle.redo_log.specs.Steps.{IsNamed, IsOpen, IsReady, Stands, behind_run, gate_name, log_name, on_way, with_next}
use Rattle.redo_log.specs.declared.next_step.NextStep.{NextStep}
use Rattle.redo_log.specs.declared.next_step.NextStep.TheVariants.{Run, SyncRuns}
use Rattle.redo_log.proofs.StepLemmas.{ThreeNames, three_names}

-- ---- the file of a patch that is not fresh

-- one that is as it was
pub stays_same : (patch : PatchValue) (name : List ℕ) (x left : Image) → left name ≡ x name → IsSomeAnd (x name) (IsRingFile patch.layout) → StaysRing patch name x left
stays_same patch name x left same whole = record {
  whole = subst (λ (held : Option (List ℕ)). IsSomeAnd held (IsRingFile patch.layout)) (sym same) whole;
  reads = λ rings reads. subst (λ (held : Option (List ℕ)). IsSomeAnd held (λ file. ReadsAs patch file rings)) (sym same) reads;
}

-- first one call, and then another
pub stays_both : (patch : PatchValue) (name : List ℕ) (x y z : Image) → StaysRing patch name x y → StaysRing patch name y z → StaysRing patch name x z
stays_both patch name x y z p q = record { whole = q.whole; reads = λ rings reads. q.reads rings (p.reads rings reads) }

pub under_over : (fresh : Bool) (image : Image) (name : List ℕ) (P : List ℕ → Type 0) → fresh ≡ false → UnderPatch fresh (Some image) name P → IsSomeAnd (image name) P
under_over true image name P over p = absurd cc
under_over false image name P over p = p

pub over_under : (fresh : Bool) (image : Image) (name : List ℕ) (P : List ℕ → Type 0) → fresh ≡ false → IsSomeAnd (image name) P → UnderPatch fresh (Some image) name P
over_under true image name P over p = absurd cc
over_under false image name P over p = p

-- what the file reads as now, it read as before
back_held : (patch : PatchValue) (old new : Option (List ℕ)) (rings : Rings) → IsSomeAnd old (IsRingFile patch.layout) → ((each : Rings) → IsSomeAnd old (λ file. ReadsAs patch file each) → IsSomeAnd new (λ file. ReadsAs patch file each))
    → IsSomeAnd new (λ file. ReadsAs patch file rings) → IsSomeAnd old (λ file. ReadsAs patch file rings)
back_held patch None new rings whole more reads = absurd whole
back_held patch (Some old) None rings whole more reads = absurd reads
back_held patch (Some old) (Some new) rings whole more reads = λ i bucket. sym (more (value_of patch old) (λ j other. refl) i bucket) ∙ reads i bucket

pub reads_back : (patch : PatchValue) (left : List ShelfRun) (name : List ℕ) (x y : Image) (rings : Rings) → patch.fresh ≡ false → ComesTo patch left name x y → IsSomeAnd (x name) (IsRingFile patch.layout)
    → IsSomeAnd (y name) (λ file. ReadsAs patch file rings) → IsSomeAnd (x name) (λ file. ReadsAs patch file rings)
reads_back patch left name x y rings over comes whole reads =
    back_held patch (x name) (y name) rings whole
    (λ each was. under_over patch.fresh y name (λ file. ReadsAs patch file each) over (comes.reads each (over_under patch.fresh x name (λ file. ReadsAs patch file each) over was))) reads

-- it is a ring file while a run is awaited
pub part_ring : (patch : PatchValue) (left : List ShelfRun) (held : Option (List ℕ)) → patch.fresh ≡ false → IsSomeAnd held (IsPartWritten patch left) → IsSomeAnd held (IsRingFile patch.layout)
part_ring patch left None over part = absurd part
part_ring patch left (Some file) over part = part.head (inl over)

pub awaits_ring : (patch : PatchValue) (left : List ShelfRun) (held : Option (List ℕ)) → patch.fresh ≡ false → IfSome (slice_get left 0) (IsRunOf patch) → Awaits patch left held → IsSomeAnd held (IsRingFile patch.layout)
awaits_ring patch [] held over sound awaits = part_ring patch [] held over awaits
awaits_ring patch (Create size ∷ left) held over sound awaits = absurd (not_both sound.0 over)
awaits_ring patch (Cells archive slot count ∷ left) held over sound awaits = part_ring patch (Cells archive slot count ∷ left) held over awaits
awaits_ring patch (Head ∷ left) held over sound awaits = part_ring patch (Head ∷ left) held over awaits

-- ---- what a crash leaves of a call for a run

torn_only : (patch : PatchValue) (found : Option ShelfRun) (name : List ℕ) (x y : Image) → IsSomeAnd found (TearsRun patch name x y) → ChangesOnly x y name
torn_only patch None name x y torn = absurd torn
torn_only patch (Some (Create size)) name x y torn = torn
torn_only patch (Some (Cells archive slot count)) name x y torn = torn.1
torn_only patch (Some Head) name x y torn = torn.1

open_left : (drain : DrainValue) (left : List ShelfRun) (name : List ℕ) (x y crashed now : Image) → ThreeNames name → (drain.patch.fresh ≡ false → IsSomeAnd (x name) (IsRingFile drain.patch.layout)) → ComesTo drain.patch left name x y
    → RunCrashed drain name crashed now → LeavesOpen drain.patch name x crashed → LeavesOpen drain.patch name y now
open_left drain left name x y crashed now names ring comes run was =
    let only : ChangesOnly crashed now name = torn_only drain.patch (slice_get drain.left 0) name crashed now run.exact in
    record {
      sound = was.sound;
      named = was.named;
      log = only log_name names.log_other ∙ was.log;
      gate = subst IsOpen (sym (only gate_name names.gate_other)) was.gate;
      others = λ other no_log no_gate no_file. only other no_file ∙ was.others other no_log no_gate no_file ∙ sym (comes.others other no_file);
      ring = λ over whole.
          let before : StaysRing drain.patch name x crashed = was.ring over (ring over) in
          let behind : StaysRing drain.patch name crashed now = run.stays over before.whole in
          record { whole = behind.whole; reads = λ rings reads. behind.reads rings (before.reads rings (reads_back drain.patch left name x y rings over comes (ring over) reads)) };
    }

ring_of : (drain : DrainValue) (name : List ℕ) (x : Image) → OfNext (Some drain) IsRunOf → Stands drain name Run x → drain.patch.fresh ≡ false → IsSomeAnd (x name) (IsRingFile drain.patch.layout)
ring_of drain name x sound s over = awaits_ring drain.patch drain.left (x name) over sound s.file

-- the row behind a run
rest_row : (patch : PatchValue) (rest : List ShelfRun) (name : List ℕ) (y left : Image) → LeavesOpen patch name y left → IfSome (drain_with patch rest) (λ drain. LeavesOpen drain.patch name y left)
rest_row patch [] name y left row = tt
rest_row patch (run ∷ rest) name y left row = row

behind_row : (b : Bool) (drain : DrainValue) (name : List ℕ) (y left : Image) → LeavesOpen drain.patch name y left → MayLeave (Some (with_next (on_way (Some drain) name Run) (cond b SyncRuns Run))) y left
behind_row true drain name y left row = row
behind_row false drain name y left row = rest_row drain.patch (drop 1 drain.left) name y left row

pub ran_row : (shelf : Option DrainValue) (name : List ℕ) (next : NextStep) (a b : Option Image) (old new : Image → Type 0) → shelf ≢ None → IsNamed shelf name → IfSome shelf (λ drain. next ≡ behind_run drain) → OfNext shelf IsRunOf
    → IfSome a (IsReady (on_way shelf name Run)) → WhereKnown a b (WritesNext shelf name) → Follows (CrashesNext shelf name) old new → InRow (Some (on_way shelf name Run)) a old → InRow (Some (with_next (on_way shelf name Run) next)) b new
ran_row None name next a b old new some named is sound ready written follows row = absurd (some refl)
ran_row (Some drain) name next None None old new some named is sound ready written follows row = tt
ran_row (Some drain) name next None (Some y) old new some named is sound ready written follows row = absurd written
ran_row (Some drain) name next (Some x) None old new some named is sound ready written follows row = absurd written
ran_row (Some drain) name next (Some x) (Some y) old new some named is sound ready written follows row =
    λ now may.
    let step = follows now may in
    let left : LeavesOpen drain.patch name y now = open_left drain (drop 1 drain.left) name x y step.0 now (three_names drain name named) (ring_of drain name x sound ready) written.comes step.2 (row step.0 step.1) in
    subst (λ (n : NextStep). MayLeave (Some (with_next (on_way (Some drain) name Run) n)) y now) (sym is) (behind_row (length drain.left == 1) drain name y now left)

pub not_ran_row : (shelf : Option DrainValue) (name : List ℕ) (a b : Option Image) (old new : Image → Type 0) → shelf ≢ None → IsNamed shelf name → OfNext shelf IsRunOf
    → IfSome a (IsReady (on_way shelf name Run)) → WhereKnown a b (FailsNext shelf name) → Follows (CrashesNext shelf name) old new → InRow (Some (on_way shelf name Run)) a old → InRow (Some (on_way shelf name Run)) b new
not_ran_row None name a b old new some named sound ready failed follows row = absurd (some refl)
not_ran_row (Some drain) name None None old new some named sound ready failed follows row = tt
not_ran_row (Some drain) name None (Some y) old new some named sound ready failed follows row = absurd failed
not_ran_row (Some drain) name (Some x) None old new some named sound ready failed follows row = absurd failed
not_ran_row (Some drain) name (Some x) (Some y) old new some named sound ready failed follows row =
    λ now may.
    let step = follows now may in
    open_left drain drain.left name x y step.0 now (three_names drain name named) (ring_of drain name x sound ready) failed.comes step.2 (row step.0 step.1)

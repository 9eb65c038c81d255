-- A patch that is laid behind an open gate, step by step.
use Rattle.std.proofs.Common.{◌≡◌, ◌≢◌, ◌∙◌, inl, inr, ℕ, ◌+◌, ◌≤◌, ◌==◌, Bool, true, false, cond, ◌&&◌, List, [], ◌∷◌, ◌++◌, length, drop, Option, None, Some, IfSome, IsSomeAnd, refl, sym, ap, subst, arith}
use Rattle.std.specs.Prelude.{⊤, nat_lt}
use Rattle.std.proofs.lemmas.Bool.{eqb-true}
use Rattle.std.specs.Map.{keys_of}
use Rattle.outside_io.specs.Image.{Image, ChangesOnly, SameImage}
use Rattle.metric_path.specs.FileName.{file_name_of}
use Rattle.ring_format.specs.Layout.{layout_fault}
use Rattle.ring_format.specs.Patch.{PatchValue}
use Rattle.ring_archive.specs.Ring.{IsRingFile, ReadsAs, Rings, UnderPatch, bare}
use Rattle.ring_archive.proofs.AlikeLemmas.{fresh_alike}
use Rattle.ring_writer.specs.PartWritten.{Awaits, ComesTo, IsPartWritten, StaysRing}
use Rattle.ring_writer.proofs.PartLemmas.{part_laid, ring_file_begun}
use Rattle.write_shelf.specs.Runs.{runs_in, runs_of, runs_on}
use Rattle.write_shelf.specs.declared.run.Run.{Run as ShelfRun}
use Rattle.write_shelf.specs.declared.run.Run.TheVariants.{Create, Cells, Head}
use Rattle.redo_log.specs.Body.{IsBody, IsSound, body_bytes}
use Rattle.redo_log.specs.Recovery.{HasLaid, Holds, IsLaid, Lays, OpensAs, StandsWithin, StillHolds, at_runs, is_open, resumed}
use Rattle.redo_log.specs.Rows.{KeepsRings, LeavesClosed, LeavesEither, LeavesOpen, MayLeave}
use Rattle.redo_log.specs.Steps.{Calls, IsOpen, IsReady, Leads, RedoValue, Stands, Touches, gate_name, log_name, on_way, with_next}
use Rattle.redo_log.specs.declared.next_step.NextStep.{NextStep}
use Rattle.redo_log.specs.declared.next_step.NextStep.TheVariants.{CreateLog, FirstPiece, Piece, SyncBody, OpenGate, SyncOpen, Run, SyncRuns, CloseGate, SyncClose}
use Rattle.redo_log.proofs.RunRows.{over_under, part_ring, stays_same, under_over}
use Rattle.redo_log.proofs.StepLemmas.{closed_is_gate, file_is_no_gate, file_is_no_log, log_is_no_gate}

-- ---- what an image holds

pub open_is : (held : Option (List ℕ)) → is_open held ≡ true → IsOpen held
open_is None is = absurd cc
open_is (Some []) is = absurd cc
open_is (Some (byte ∷ file)) is = ap (λ (n : ℕ). Some n) (eqb-true byte 1 is)

pub held_body : (patch : PatchValue) (held : Option (List ℕ)) → IsSomeAnd held (λ bytes. IsBody bytes (Some patch)) → held ≡ Some (body_bytes patch)
held_body patch None body = absurd body
held_body patch (Some bytes) body = ap (λ (xs : List ℕ). Some xs) body.1

pub held_sound : (patch : PatchValue) (held : Option (List ℕ)) → IsSomeAnd held (λ bytes. IsBody bytes (Some patch)) → IsSound patch
held_sound patch None body = absurd body
held_sound patch (Some bytes) body = body.0

held_lawful : (patch : PatchValue) (held : Option (List ℕ)) → IsSomeAnd held (λ bytes. IsBody bytes (Some patch)) → layout_fault patch.layout.archives patch.layout.factor ≡ None
held_lawful patch None body = absurd body
held_lawful patch (Some bytes) body = body.0.lawful

-- ---- the file of the patch

under_same : (fresh : Bool) (x y : Image) (name : List ℕ) (P : List ℕ → Type 0) → y name ≡ x name → UnderPatch fresh (Some x) name P → UnderPatch fresh (Some y) name P
under_same true x y name P same p = p
under_same false x y name P same p = subst (λ (held : Option (List ℕ)). IsSomeAnd held P) (sym same) p

reads_here : (patch : PatchValue) (file : List ℕ) (fresh : Bool) (image : Image) (name : List ℕ) (rings : Rings) → patch.fresh ≡ fresh → image name ≡ Some file → UnderPatch fresh (Some image) name (λ bytes. ReadsAs patch bytes rings) → ReadsAs patch file rings
reads_here patch file true image name rings is held reads = fresh_alike patch [] file rings is reads
reads_here patch file false image name rings is held reads = subst (λ (o : Option (List ℕ)). IsSomeAnd o (λ bytes. ReadsAs patch bytes rings)) held reads

-- one with no run left stands alone
part_alone : (patch : PatchValue) (image : Image) (name : List ℕ) (held : Option (List ℕ)) (rings : Rings) → layout_fault patch.layout.archives patch.layout.factor ≡ None → image name ≡ held → IsSomeAnd held (IsPartWritten patch [])
    → UnderPatch patch.fresh (Some image) name (λ file. ReadsAs patch file rings) → IsSomeAnd held (λ file. ReadsAs (bare patch.path patch.layout) file rings)
part_alone patch image name None rings lawful is part reads = absurd part
part_alone patch image name (Some file) rings lawful is part reads = (part_laid patch file lawful part).reads rings (reads_here patch file patch.fresh image name rings refl is reads)

-- and it reads under the patch again
part_under : (patch : PatchValue) (image : Image) (name : List ℕ) (held : Option (List ℕ)) (rings : Rings) → image name ≡ held → IsSomeAnd held (IsPartWritten patch [])
    → UnderPatch patch.fresh (Some image) name (λ file. ReadsAs patch file rings) → IsSomeAnd held (λ file. ReadsAs patch file rings)
part_under patch image name None rings is part reads = absurd part
part_under patch image name (Some file) rings is part reads = reads_here patch file patch.fresh image name rings refl is reads

part_whole : (patch : PatchValue) (held : Option (List ℕ)) → IsSomeAnd held (IsPartWritten patch []) → IsSomeAnd held (IsRingFile patch.layout)
part_whole patch None part = absurd part
part_whole patch (Some file) part = part.head (inr refl)

-- ---- how far the steps came

-- the log and the other rings are as before, and the file reads under the patch as before
pub record Onward (patch : PatchValue) (before now : Image) : Type 0 where
  pub log : now log_name ≡ before log_name
  pub others : (name : List ℕ) → name ≢ log_name → name ≢ gate_name → name ≢ file_name_of patch.path → now name ≡ before name
  pub reads : (rings : Rings) → UnderPatch patch.fresh (Some before) (file_name_of patch.path) (λ file. ReadsAs patch file rings) → UnderPatch patch.fresh (Some now) (file_name_of patch.path) (λ file. ReadsAs patch file rings)

pub onward_none : (patch : PatchValue) (x : Image) → Onward patch x x
onward_none patch x = record { log = refl; others = λ name a b c. refl; reads = λ rings reads. reads }

onward_run : (patch : PatchValue) (left : List ShelfRun) (a x y : Image) → Onward patch a x → ComesTo patch left (file_name_of patch.path) x y → Onward patch a y
onward_run patch left a x y so_far comes = record {
  log = comes.others log_name (λ e. file_is_no_log patch.path (sym e)) ∙ so_far.log;
  others = λ name no_log no_gate no_file. comes.others name no_file ∙ so_far.others name no_log no_gate no_file;
  reads = λ rings reads. comes.reads rings (so_far.reads rings reads);
}

onward_gate : (patch : PatchValue) (a x y : Image) → Onward patch a x → ChangesOnly x y gate_name → Onward patch a y
onward_gate patch a x y so_far only = record {
  log = only log_name log_is_no_gate ∙ so_far.log;
  others = λ name no_log no_gate no_file. only name no_gate ∙ so_far.others name no_log no_gate no_file;
  reads = λ rings reads. under_same patch.fresh x y (file_name_of patch.path) (λ file. ReadsAs patch file rings) (only (file_name_of patch.path) (file_is_no_gate patch.path)) (so_far.reads rings reads);
}

pub onward_same : (patch : PatchValue) (a x y : Image) → Onward patch a x → SameImage x y → Onward patch a y
onward_same patch a x y so_far same = onward_gate patch a x y so_far (λ name other. same name)

-- ---- the last rows

-- the rings are laid, and a crash leaves them as they read
laid_left : (patch : PatchValue) (a b left : Image) → layout_fault patch.layout.archives patch.layout.factor ≡ None → Onward patch a b → IsSomeAnd (b (file_name_of patch.path)) (IsPartWritten patch []) → KeepsRings b left → IsLaid patch a left
laid_left patch a b left lawful so_far part rings =
    let same : left (file_name_of patch.path) ≡ b (file_name_of patch.path) = rings (file_name_of patch.path) (file_is_no_log patch.path) (file_is_no_gate patch.path) in
    record {
      others = λ name no_log no_gate no_file. rings name no_log no_gate ∙ so_far.others name no_log no_gate no_file;
      whole = subst (λ (held : Option (List ℕ)). IsSomeAnd held (IsRingFile patch.layout)) (sym same) (part_whole patch (b (file_name_of patch.path)) part);
      reads = λ each reads. subst (λ (held : Option (List ℕ)). IsSomeAnd held (λ file. ReadsAs (bare patch.path patch.layout) file each)) (sym same)
          (part_alone patch b (file_name_of patch.path) (b (file_name_of patch.path)) each lawful refl part (so_far.reads each reads));
      again = λ each reads. subst (λ (held : Option (List ℕ)). IsSomeAnd held (λ file. ReadsAs patch file each)) (sym same)
          (part_under patch b (file_name_of patch.path) (b (file_name_of patch.path)) each refl part (so_far.reads each reads));
    }

-- a run may be half written
still_left : (patch : PatchValue) (a b left : Image) → Holds (Some patch) a → Onward patch a b → (patch.fresh ≡ false → IsSomeAnd (b (file_name_of patch.path)) (IsRingFile patch.layout)) → LeavesOpen patch (file_name_of patch.path) b left → StillHolds patch a left
still_left patch a b left holds so_far ring row = record {
  gate = row.gate;
  log = row.log ∙ sym (held_body patch (a log_name) holds.body);
  others = λ name no_log no_gate no_file. row.others name no_log no_gate no_file ∙ so_far.others name no_log no_gate no_file;
  ring = λ over.
      let now : StaysRing patch (file_name_of patch.path) b left = row.ring over (ring over) in
      record {
        whole = now.whole;
        reads = λ rings reads. now.reads rings (under_over patch.fresh b (file_name_of patch.path) (λ file. ReadsAs patch file rings) over
            (so_far.reads rings (over_under patch.fresh a (file_name_of patch.path) (λ file. ReadsAs patch file rings) over reads)));
      };
}

-- ---- the steps behind the gate

abbrev pub IsLate : NextStep → Type 0
IsLate CreateLog = ⊥
IsLate FirstPiece = ⊥
IsLate (Piece written) = ⊥
IsLate SyncBody = ⊥
IsLate OpenGate = ⊥
IsLate SyncOpen = ⊥
IsLate Run = ⊤
IsLate SyncRuns = ⊤
IsLate CloseGate = ⊤
IsLate SyncClose = ⊤

-- none of these runs creates a file
abbrev pub NoCreation : List ShelfRun → Type 0
NoCreation [] = ⊤
NoCreation (Create size ∷ left) = ⊥
NoCreation (Cells archive slot count ∷ left) = NoCreation left
NoCreation (Head ∷ left) = NoCreation left

cells_by : (b : Bool) (one : List ShelfRun) (archive slot count : ℕ) (other : List ShelfRun) → NoCreation one → NoCreation other → NoCreation (cond b one (Cells archive slot count ∷ other))
cells_by true one archive slot count other p q = p
cells_by false one archive slot count other p q = q

cells_on : (archive slot count : ℕ) (places : List (ℕ × ℕ)) → NoCreation (runs_on archive slot count places)
cells_on archive slot count [] = tt
cells_on archive slot count (place ∷ places) =
    cells_by ((archive == place.0 && slot + count == place.1) && nat_lt count 341) (runs_on archive slot (count + 1) places) archive slot count (runs_on place.0 place.1 1 places) (cells_on archive slot (count + 1) places) (cells_on place.0 place.1 1 places)

cells_in : (places : List (ℕ × ℕ)) → NoCreation (runs_in places)
cells_in [] = tt
cells_in (place ∷ places) = cells_on place.0 place.1 1 places

cells_and_none : (runs : List ShelfRun) → NoCreation runs → NoCreation (runs ++ [])
cells_and_none [] none = tt
cells_and_none (Create size ∷ runs) none = absurd none
cells_and_none (Cells archive slot count ∷ runs) none = cells_and_none runs none
cells_and_none (Head ∷ runs) none = cells_and_none runs none

runs_created : (patch : PatchValue) → patch.fresh ≡ false → NoCreation (runs_of patch)
runs_created patch over = rw over (cells_and_none (runs_in (keys_of patch.cells)) (cells_in (keys_of patch.cells)))

awaited_ring : (patch : PatchValue) (left : List ShelfRun) (held : Option (List ℕ)) → patch.fresh ≡ false → NoCreation left → Awaits patch left held → IsSomeAnd held (IsRingFile patch.layout)
awaited_ring patch [] held over none awaits = part_ring patch [] held over awaits
awaited_ring patch (Create size ∷ left) held over none awaits = absurd none
awaited_ring patch (Cells archive slot count ∷ left) held over none awaits = part_ring patch (Cells archive slot count ∷ left) held over awaits
awaited_ring patch (Head ∷ left) held over none awaits = part_ring patch (Head ∷ left) held over awaits

-- a redo of the patch behind the open gate
pub record IsLaying (patch : PatchValue) (redo : RedoValue) : Type 0 where
  pub left : List ShelfRun
  pub some : 1 ≤ length left
  pub cells : patch.fresh ≡ false → NoCreation left
  pub next : NextStep
  pub late : IsLate next
  pub is : redo ≡ on_way (Some (record { patch = patch; left = left })) (file_name_of patch.path) next

abbrev At : PatchValue → List ShelfRun → NextStep → RedoValue
At patch left next = on_way (Some (record { patch = patch; left = left })) (file_name_of patch.path) next

-- the first run
laying_runs : (patch : PatchValue) (left : List ShelfRun) → (patch.fresh ≡ false → NoCreation left) → IfSome (at_runs patch (file_name_of patch.path) left) (IsLaying patch)
laying_runs patch [] cells = tt
laying_runs patch (run ∷ left) cells = record { left = run ∷ left; some = omega arith; cells = cells; next = Run; late = tt; is = refl }

pub laying_first : (patch : PatchValue) → IfSome (resumed (Some patch)) (IsLaying patch)
laying_first patch = laying_runs patch (runs_of patch) (runs_created patch)

-- the next step
no_creation_behind : (run : ShelfRun) (left : List ShelfRun) → NoCreation (run ∷ left) → NoCreation left
no_creation_behind (Create size) left none = absurd none
no_creation_behind (Cells archive slot count) left none = none
no_creation_behind Head left none = none

laying_rest : (patch : PatchValue) (left : List ShelfRun) → 1 ≤ length left → (length left == 1) ≡ false → (patch.fresh ≡ false → NoCreation left) → IsLaying patch (with_next (At patch left Run) Run)
laying_rest patch [] some more cells = absurd (omega (arith, some))
laying_rest patch (run ∷ []) some more cells = absurd cc
laying_rest patch (run ∷ next ∷ left) some more cells =
    record { left = next ∷ left; some = omega arith; cells = λ over. no_creation_behind run (next ∷ left) (cells over); next = Run; late = tt; is = refl }

laying_run : (b : Bool) (patch : PatchValue) (left : List ShelfRun) → (length left == 1) ≡ b → 1 ≤ length left → (patch.fresh ≡ false → NoCreation left) → IsLaying patch (with_next (At patch left Run) (cond b SyncRuns Run))
laying_run true patch left last some cells = record { left = left; some = some; cells = cells; next = SyncRuns; late = tt; is = refl }
laying_run false patch left more some cells = laying_rest patch left some more cells

some_is : {X : Type 0} (x y : X) → Some x ≡ Some y → x ≡ y
some_is x y e = cc

next_plain : (patch : PatchValue) (left : List ShelfRun) (now next : NextStep) → 1 ≤ length left → (patch.fresh ≡ false → NoCreation left) → IsLate now → Leads (record { patch = patch; left = left }) now (Some next) → IsLaying patch (with_next (At patch left now) next)
next_plain patch left CreateLog next some cells late leads = absurd late
next_plain patch left FirstPiece next some cells late leads = absurd late
next_plain patch left (Piece written) next some cells late leads = absurd late
next_plain patch left SyncBody next some cells late leads = absurd late
next_plain patch left OpenGate next some cells late leads = absurd late
next_plain patch left SyncOpen next some cells late leads = absurd late
next_plain patch left Run next some cells late leads =
    subst (λ (n : NextStep). IsLaying patch (with_next (At patch left Run) n)) (sym (some_is next (cond (length left == 1) SyncRuns Run) leads.0)) (laying_run (length left == 1) patch left refl some cells)
next_plain patch left SyncRuns next some cells late leads =
    subst (λ (n : NextStep). IsLaying patch (with_next (At patch left SyncRuns) n)) (sym (some_is next CloseGate leads.0)) (record { left = left; some = some; cells = cells; next = CloseGate; late = tt; is = refl })
next_plain patch left CloseGate next some cells late leads =
    subst (λ (n : NextStep). IsLaying patch (with_next (At patch left CloseGate) n)) (sym (some_is next SyncClose leads.0)) (record { left = left; some = some; cells = cells; next = SyncClose; late = tt; is = refl })
next_plain patch left SyncClose next some cells late leads = absurd cc

pub laying_next : (patch : PatchValue) (redo : RedoValue) (next : NextStep) → IsLaying patch redo → IfSome redo.drain (λ drain. Leads drain redo.next (Some next)) → IsLaying patch (with_next redo next)
laying_next patch redo next laying leads =
    subst (λ (r : RedoValue). IfSome r.drain (λ drain. Leads drain r.next (Some next)) → IsLaying patch (with_next r next)) (sym laying.is) (next_plain patch laying.left laying.next next laying.some laying.cells laying.late) leads

-- ---- what a step does

called_plain : (patch : PatchValue) (left : List ShelfRun) (now : NextStep) (behind : Option NextStep) (a x y : Image) → IsLate now → Onward patch a x → Calls (record { patch = patch; left = left }) (file_name_of patch.path) now behind x y → Onward patch a y
called_plain patch left CreateLog behind a x y late so_far calls = absurd late
called_plain patch left FirstPiece behind a x y late so_far calls = absurd late
called_plain patch left (Piece written) behind a x y late so_far calls = absurd late
called_plain patch left SyncBody behind a x y late so_far calls = absurd late
called_plain patch left OpenGate behind a x y late so_far calls = absurd late
called_plain patch left SyncOpen behind a x y late so_far calls = absurd late
called_plain patch left Run behind a x y late so_far calls = onward_run patch (drop 1 left) a x y so_far calls.comes
called_plain patch left SyncRuns behind a x y late so_far calls = onward_gate patch a x y so_far (λ name other. calls name)
called_plain patch left CloseGate behind a x y late so_far calls = onward_gate patch a x y so_far calls.1
called_plain patch left SyncClose behind a x y late so_far calls = onward_gate patch a x y so_far (λ name other. calls name)

pub onward_called : (patch : PatchValue) (redo : RedoValue) (behind : Option NextStep) (a x y : Image) → IsLaying patch redo → Onward patch a x → IfSome redo.drain (λ drain. Calls drain redo.name redo.next behind x y) → Onward patch a y
onward_called patch redo behind a x y laying so_far calls =
    subst (λ (r : RedoValue). IfSome r.drain (λ drain. Calls drain r.name r.next behind x y) → Onward patch a y) (sym laying.is) (called_plain patch laying.left laying.next behind a x y laying.late so_far) calls

failed_plain : (patch : PatchValue) (left : List ShelfRun) (now : NextStep) (a x y : Image) → IsLate now → Onward patch a x → Touches (record { patch = patch; left = left }) (file_name_of patch.path) now x y → Onward patch a y
failed_plain patch left CreateLog a x y late so_far touches = absurd late
failed_plain patch left FirstPiece a x y late so_far touches = absurd late
failed_plain patch left (Piece written) a x y late so_far touches = absurd late
failed_plain patch left SyncBody a x y late so_far touches = absurd late
failed_plain patch left OpenGate a x y late so_far touches = absurd late
failed_plain patch left SyncOpen a x y late so_far touches = absurd late
failed_plain patch left Run a x y late so_far touches = onward_run patch left a x y so_far touches.comes
failed_plain patch left SyncRuns a x y late so_far touches = onward_gate patch a x y so_far (λ name other. touches name)
failed_plain patch left CloseGate a x y late so_far touches = onward_gate patch a x y so_far touches.1
failed_plain patch left SyncClose a x y late so_far touches = onward_gate patch a x y so_far (λ name other. touches name)

pub onward_failed : (patch : PatchValue) (redo : RedoValue) (a x y : Image) → IsLaying patch redo → Onward patch a x → IfSome redo.drain (λ drain. Touches drain redo.name redo.next x y) → Onward patch a y
onward_failed patch redo a x y laying so_far touches =
    subst (λ (r : RedoValue). IfSome r.drain (λ drain. Touches drain r.name r.next x y) → Onward patch a y) (sym laying.is) (failed_plain patch laying.left laying.next a x y laying.late so_far) touches

-- ---- what a crash leaves

stops : (patch : PatchValue) (a left : Image) → is_open (a gate_name) ≡ true → Holds (Some patch) a → StandsWithin (Some patch) a left → OpensAs a left
stops patch a left gate holds stands = inr (record { gate = open_is (a gate_name) gate; patch = Some patch; holds = holds; stands = stands })

either_left : (patch : PatchValue) (a b left : Image) → Holds (Some patch) a → Onward patch a b → IsSomeAnd (b (file_name_of patch.path)) (IsPartWritten patch []) → LeavesEither patch b left → StandsWithin (Some patch) a left
either_left patch a b left holds so_far part row = inr (record {
  rings = laid_left patch a b left (held_lawful patch (a log_name) holds.body) so_far part row.rings;
  gate = inr (row.log ∙ sym (held_body patch (a log_name) holds.body));
})

row_plain : (patch : PatchValue) (runs : List ShelfRun) (now : NextStep) (a b left : Image) → IsLate now → (patch.fresh ≡ false → NoCreation runs) → Holds (Some patch) a → Onward patch a b → IsReady (At patch runs now) b → MayLeave (Some (At patch runs now)) b left
    → StandsWithin (Some patch) a left
row_plain patch runs CreateLog a b left late cells holds so_far ready row = absurd late
row_plain patch runs FirstPiece a b left late cells holds so_far ready row = absurd late
row_plain patch runs (Piece written) a b left late cells holds so_far ready row = absurd late
row_plain patch runs SyncBody a b left late cells holds so_far ready row = absurd late
row_plain patch runs OpenGate a b left late cells holds so_far ready row = absurd late
row_plain patch runs SyncOpen a b left late cells holds so_far ready row = absurd late
row_plain patch runs Run a b left late cells holds so_far ready row = inl (still_left patch a b left holds so_far (λ over. awaited_ring patch runs (b (file_name_of patch.path)) over (cells over) ready.file) row)
row_plain patch runs SyncRuns a b left late cells holds so_far ready row = inl (still_left patch a b left holds so_far (λ over. part_ring patch [] (b (file_name_of patch.path)) over ready.file) row)
row_plain patch runs CloseGate a b left late cells holds so_far ready row = either_left patch a b left holds so_far ready.file row
row_plain patch runs SyncClose a b left late cells holds so_far ready row = either_left patch a b left holds so_far ready.file row

pub row_opens : (patch : PatchValue) (redo : RedoValue) (a b left : Image) → is_open (a gate_name) ≡ true → Holds (Some patch) a → IsLaying patch redo → Onward patch a b → IsReady redo b → MayLeave (Some redo) b left → OpensAs a left
row_opens patch redo a b left gate holds laying so_far ready row =
    stops patch a left gate holds
    (subst (λ (r : RedoValue). IsReady r b → MayLeave (Some r) b left → StandsWithin (Some patch) a left) (sym laying.is) (row_plain patch laying.left laying.next a b left laying.late laying.cells holds so_far) ready row)

-- what stands there is among it
self_open : (patch : PatchValue) (b : Image) → IsSound patch → b log_name ≡ Some (body_bytes patch) → IsOpen (b gate_name) → LeavesOpen patch (file_name_of patch.path) b b
self_open patch b sound log gate = record {
  sound = sound;
  named = refl;
  log = log;
  gate = gate;
  others = λ name no_log no_gate no_file. refl;
  ring = λ over whole. stays_same patch (file_name_of patch.path) b b refl whole;
}

self_plain : (patch : PatchValue) (runs : List ShelfRun) (now : NextStep) (b : Image) → IsSound patch → IsLate now → IsReady (At patch runs now) b → MayLeave (Some (At patch runs now)) b b
self_plain patch runs CreateLog b sound late ready = absurd late
self_plain patch runs FirstPiece b sound late ready = absurd late
self_plain patch runs (Piece written) b sound late ready = absurd late
self_plain patch runs SyncBody b sound late ready = absurd late
self_plain patch runs OpenGate b sound late ready = absurd late
self_plain patch runs SyncOpen b sound late ready = absurd late
self_plain patch runs Run b sound late ready = self_open patch b sound ready.log ready.gate
self_plain patch runs SyncRuns b sound late ready = self_open patch b sound ready.log ready.gate
self_plain patch runs CloseGate b sound late ready = record { sound = sound; log = ready.log; gate = ready.gate; rings = λ name no_log no_gate. refl }
self_plain patch runs SyncClose b sound late ready = record { sound = sound; log = ready.log; gate = closed_is_gate (b gate_name) ready.gate; rings = λ name no_log no_gate. refl }

pub self_row : (patch : PatchValue) (redo : RedoValue) (b : Image) → IsSound patch → IsLaying patch redo → IsReady redo b → MayLeave (Some redo) b b
self_row patch redo b sound laying ready = subst (λ (r : RedoValue). IsReady r b → MayLeave (Some r) b b) (sym laying.is) (self_plain patch laying.left laying.next b sound laying.late) ready

-- behind the last step
same_plain : (patch : PatchValue) (runs : List ShelfRun) (now : NextStep) (x y : Image) → IsLate now → Leads (record { patch = patch; left = runs }) now None → Calls (record { patch = patch; left = runs }) (file_name_of patch.path) now None x y → SameImage x y
same_plain patch runs CreateLog x y late leads calls = absurd late
same_plain patch runs FirstPiece x y late leads calls = absurd late
same_plain patch runs (Piece written) x y late leads calls = absurd late
same_plain patch runs SyncBody x y late leads calls = absurd late
same_plain patch runs OpenGate x y late leads calls = absurd late
same_plain patch runs SyncOpen x y late leads calls = absurd late
same_plain patch runs Run x y late leads calls = absurd cc
same_plain patch runs SyncRuns x y late leads calls = absurd cc
same_plain patch runs CloseGate x y late leads calls = absurd cc
same_plain patch runs SyncClose x y late leads calls = calls

pub last_same : (patch : PatchValue) (redo : RedoValue) (x y : Image) → IsLaying patch redo → IfSome redo.drain (λ drain. Leads drain redo.next None) → IfSome redo.drain (λ drain. Calls drain redo.name redo.next None x y) → SameImage x y
last_same patch redo x y laying leads calls =
    subst (λ (r : RedoValue). IfSome r.drain (λ drain. Leads drain r.next None) → IfSome r.drain (λ drain. Calls drain r.name r.next None x y) → SameImage x y) (sym laying.is) (same_plain patch laying.left laying.next x y laying.late) leads calls

last_plain : (patch : PatchValue) (runs : List ShelfRun) (now : NextStep) (x : Image) → IsLate now → Leads (record { patch = patch; left = runs }) now None → IsReady (At patch runs now) x → Stands (record { patch = patch; left = runs }) (file_name_of patch.path) SyncClose x
last_plain patch runs CreateLog x late leads ready = absurd late
last_plain patch runs FirstPiece x late leads ready = absurd late
last_plain patch runs (Piece written) x late leads ready = absurd late
last_plain patch runs SyncBody x late leads ready = absurd late
last_plain patch runs OpenGate x late leads ready = absurd late
last_plain patch runs SyncOpen x late leads ready = absurd late
last_plain patch runs Run x late leads ready = absurd cc
last_plain patch runs SyncRuns x late leads ready = absurd cc
last_plain patch runs CloseGate x late leads ready = absurd cc
last_plain patch runs SyncClose x late leads ready = ready

pub last_stands : (patch : PatchValue) (redo : RedoValue) (x : Image) (laying : IsLaying patch redo) → IfSome redo.drain (λ drain. Leads drain redo.next None) → IsReady redo x → Stands (record { patch = patch; left = laying.left }) (file_name_of patch.path) SyncClose x
last_stands patch redo x laying leads ready =
    subst (λ (r : RedoValue). IfSome r.drain (λ drain. Leads drain r.next None) → IsReady r x → Stands (record { patch = patch; left = laying.left }) (file_name_of patch.path) SyncClose x) (sym laying.is)
    (last_plain patch laying.left laying.next x laying.late) leads ready

pub last_laid : (patch : PatchValue) (a x left : Image) → Holds (Some patch) a → Onward patch a x → IsSomeAnd (x (file_name_of patch.path)) (IsPartWritten patch []) → KeepsRings x left → IsLaid patch a left
last_laid patch a x left holds so_far part rings = laid_left patch a x left (held_lawful patch (a log_name) holds.body) so_far part rings

pub last_opens : (patch : PatchValue) (a x left : Image) → is_open (a gate_name) ≡ true → Holds (Some patch) a → Onward patch a x → IsSomeAnd (x (file_name_of patch.path)) (IsPartWritten patch []) → LeavesClosed x left → OpensAs a left
last_opens patch a x left gate holds so_far part row =
    stops patch a left gate holds (inr (record { rings = last_laid patch a x left holds so_far part row.rings; gate = inl row.gate }))

-- ---- a patch without runs, and the body of nothing

no_runs : (patch : PatchValue) (name : List ℕ) (runs : List ShelfRun) → None ≡ at_runs patch name runs → runs ≡ []
no_runs patch name [] is = refl
no_runs patch name (run ∷ runs) is = absurd cc

not_fresh : (fresh : Bool) (patch : PatchValue) → patch.fresh ≡ fresh → runs_of patch ≡ [] → patch.fresh ≡ false
not_fresh false patch is none = is
not_fresh true patch is none = absurd (omega (arith, ap length (rw is at none)))

ring_part : (patch : PatchValue) (held : Option (List ℕ)) → patch.fresh ≡ false → runs_of patch ≡ [] → IsSomeAnd held (IsRingFile patch.layout) → IsSomeAnd held (IsPartWritten patch [])
ring_part patch None over none whole = absurd whole
ring_part patch (Some file) over none whole = subst (λ (runs : List ShelfRun). IsPartWritten patch runs file) none (ring_file_begun patch file over whole)

nothing_lays : (patch : Option PatchValue) (x y : Image) → None ≡ resumed patch → Holds patch x → ChangesOnly x y gate_name → Lays patch x y
nothing_lays None x y is holds only = λ name no_log no_gate. only name no_gate
nothing_lays (Some patch) x y is holds only =
    let none : runs_of patch ≡ [] = no_runs patch (file_name_of patch.path) (runs_of patch) is in
    let over : patch.fresh ≡ false = not_fresh patch.fresh patch refl none in
    laid_left patch x x y (held_lawful patch (x log_name) holds.body) (onward_none patch x) (ring_part patch (x (file_name_of patch.path)) over none (holds.ring over)) (λ name no_log no_gate. only name no_gate)

laid_stands : (patch : Option PatchValue) (x y : Image) → HasLaid patch x y → StandsWithin patch x y
laid_stands None x y laid = laid
laid_stands (Some patch) x y laid = inr laid

pub gate_opens : (patch : Option PatchValue) (x y : Image) → is_open (x gate_name) ≡ true → None ≡ resumed patch → Holds patch x → ChangesOnly x y gate_name → OpensAs x y
gate_opens patch x y gate is holds only = inr (record {
  gate = open_is (x gate_name) gate;
  patch = patch;
  holds = holds;
  stands = laid_stands patch x y (record { rings = nothing_lays patch x y is holds only; gate = inr (only log_name log_is_no_gate) });
})

pub nothing_laid : (patch : Option PatchValue) (x y : Image) → None ≡ resumed patch → Holds patch x → ChangesOnly x y gate_name → Lays patch x y
nothing_laid patch x y is holds only = nothing_lays patch x y is holds only

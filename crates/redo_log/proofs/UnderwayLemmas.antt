-- A recovery on its way: what stands between two of its steps, over any disk.
use Rattle.std.proofs.Common.{◌≡◌, ◌≢◌, ◌∙◌, inl, ⊎_elim, ℕ, ◌≤◌, true, List, [], ◌∷◌, Option, None, Some, IfSome, IsSomeAnd, refl, sym, subst, arith}
use Rattle.outside_io.specs.Crash.{LeavesOnly, OnlyKnown}
use Rattle.outside_io.specs.Image.{Image, SameImage, WhereKnown}
use Rattle.outside_io.specs.declared.disk.Disk.{Ghosts as DiskGhosts}
use Rattle.metric_path.specs.FileName.{file_name_of}
use Rattle.ring_format.specs.Patch.{PatchValue}
use Rattle.ring_writer.specs.PartWritten.{AwaitsNext, IsPartWritten}
use Rattle.ring_writer.proofs.NextLemmas.{put_awaits}
use Rattle.write_shelf.specs.Runs.{runs_of}
use Rattle.write_shelf.specs.Shelf.{drain_with}
use Rattle.write_shelf.specs.declared.run.Run.{Run as ShelfRun}
use Rattle.redo_log.specs.Body.{IsSound}
use Rattle.redo_log.specs.Ends.{RedoEnds, TakesLast, TakesNone, TakesStep}
use Rattle.redo_log.specs.Frame.{InEither, StaysInRows}
use Rattle.redo_log.specs.Recovery.{Holds, IsBehindGate, LaysAll, OpensAs, at_runs, is_open, resumed}
use Rattle.redo_log.specs.Rows.{InRow, LeavesClosed, MayLeave}
use Rattle.redo_log.specs.Steps.{Failed, IsClosed, IsOpen, IsReady, Leads, RedoValue, Taken, gate_name, log_name}
use Rattle.redo_log.specs.declared.redo_step.RedoStep.TheVariants.{Run, Finished, DiskFault}
use Rattle.redo_log.proofs.LayLemmas.{IsLaying, Onward, held_body, held_sound, last_laid, last_opens, last_same, last_stands, laying_first, laying_next, onward_called, onward_failed, onward_none, onward_same, open_is, row_opens, self_row}
use Rattle.redo_log.proofs.MomentLemmas.{leaves_both, leaves_more}
use Rattle.redo_log.proofs.RunRows.{stays_same}

abbrev pub Opens : Option Image → Image → Type 0
Opens known left = IfSome known (λ before. OpensAs before left)

pub record Underway {D : Type 0} (d : DiskGhosts D) (start now : D) (redo : RedoValue) : Type 0 where
  pub patch : PatchValue
  pub laying : IsLaying patch redo
  pub gate : IfSome (d.image start) (λ image. is_open (image gate_name) ≡ true)
  pub holds : IfSome (d.image start) (Holds (Some patch))
  pub so_far : WhereKnown (d.image start) (d.image now) (Onward patch)
  pub ready : IfSome (d.image now) (IsReady redo)
  pub row : InRow (Some redo) (d.image now) (d.may_leave now)
  pub leaves : LeavesOnly d.moment d.left_since start now (Opens (d.image start))
  pub later : d.faults start ≤ d.faults now

-- ---- images that may not be told

row_known : (patch : PatchValue) (redo : RedoValue) (a b : Option Image) (left : Image) → IfSome a (λ image. is_open (image gate_name) ≡ true) → IfSome a (Holds (Some patch)) → IsLaying patch redo → WhereKnown a b (Onward patch) → IfSome b (IsReady redo)
    → IfSome b (λ now. MayLeave (Some redo) now left) → Opens a left
row_known patch redo None b left gate holds laying so_far ready row = tt
row_known patch redo (Some a) None left gate holds laying so_far ready row = absurd so_far
row_known patch redo (Some a) (Some b) left gate holds laying so_far ready row = row_opens patch redo a b left gate holds laying so_far ready row

onward_known : (patch : PatchValue) (redo : RedoValue) (P : Image → Image → Type 0) (a b c : Option Image) → ((x y z : Image) → Onward patch x y → P y z → Onward patch x z) → WhereKnown a b (Onward patch) → WhereKnown b c P → WhereKnown a c (Onward patch)
onward_known patch redo P None None None more so_far call = tt
onward_known patch redo P None None (Some z) more so_far call = call
onward_known patch redo P None (Some y) c more so_far call = absurd so_far
onward_known patch redo P (Some x) None c more so_far call = absurd so_far
onward_known patch redo P (Some x) (Some y) None more so_far call = call
onward_known patch redo P (Some x) (Some y) (Some z) more so_far call = more x y z so_far call

start_known : (patch : PatchValue) (a : Option Image) → WhereKnown a a (Onward patch)
start_known patch None = tt
start_known patch (Some a) = onward_none patch a

same_opens : (a : Option Image) (left : Image) → IfSome a (λ image. SameImage image left) → Opens a left
same_opens None left same = tt
same_opens (Some a) left same = inl same

pub only_at : (a : Option Image) (may_leave : Image → Type 0) (left : Image) → OnlyKnown a may_leave → may_leave left → IfSome a (λ image. SameImage image left)
only_at None may_leave left only may = tt
only_at (Some a) may_leave left only may = only left may

self_known : (patch : PatchValue) (redo : RedoValue) (a b : Option Image) → IfSome a (λ image. is_open (image gate_name) ≡ true) → IfSome a (Holds (Some patch)) → IsLaying patch redo → WhereKnown a b (Onward patch) → IfSome b (IsReady redo) → WhereKnown a b OpensAs
self_known patch redo None None gate holds laying so_far ready = tt
self_known patch redo None (Some b) gate holds laying so_far ready = so_far
self_known patch redo (Some a) None gate holds laying so_far ready = so_far
self_known patch redo (Some a) (Some b) gate holds laying so_far ready = row_opens patch redo a b b gate holds laying so_far ready (self_row patch redo b (held_sound patch (a log_name) holds.body) laying ready)

-- before any call
pub start_leaves : {D : Type 0} (d : DiskGhosts D) (start : D) → OnlyKnown (d.image start) (d.may_leave start) → LeavesOnly d.moment d.left_since start start (Opens (d.image start))
start_leaves d start only = record {
  later = omega arith;
  each = λ left since. same_opens (d.image start) left (only_at (d.image start) (d.may_leave start) left only (d.only_now start left since));
  before = λ t left le since. inl since;
}

-- ---- the start

ready_plain : (patch : PatchValue) (runs : List ShelfRun) (a : Image) → is_open (a gate_name) ≡ true → Holds (Some patch) a → AwaitsNext (drain_with patch runs) (a (file_name_of patch.path)) → IfSome (at_runs patch (file_name_of patch.path) runs) (λ redo. IsReady redo a)
ready_plain patch [] a gate holds awaits = tt
ready_plain patch (run ∷ runs) a gate holds awaits = record { log = held_body patch (a log_name) holds.body; gate = open_is (a gate_name) gate; file = awaits }

row_plain : (patch : PatchValue) (runs : List ShelfRun) (a left : Image) → IsSound patch → SameImage a left → IfSome (at_runs patch (file_name_of patch.path) runs) (λ redo. IsReady redo a → MayLeave (Some redo) a left)
row_plain patch [] a left sound same = tt
row_plain patch (run ∷ runs) a left sound same = λ ready. record {
  sound = sound;
  named = refl;
  log = same log_name ∙ ready.log;
  gate = subst IsOpen (sym (same gate_name)) ready.gate;
  others = λ name no_log no_gate no_file. same name;
  ring = λ over whole. stays_same patch (file_name_of patch.path) a left (same (file_name_of patch.path)) whole;
}

ready_first : (patch : PatchValue) (a : Option Image) → IfSome a (λ image. is_open (image gate_name) ≡ true) → IfSome a (Holds (Some patch)) → IfSome a (λ image. IfSome (resumed (Some patch)) (λ redo. IsReady redo image))
ready_first patch None gate holds = tt
ready_first patch (Some a) gate holds = ready_plain patch (runs_of patch) a gate holds (put_awaits patch (file_name_of patch.path) (Some a) holds.ring)

turned : (a : Option Image) (redo : Option RedoValue) (P : RedoValue → Image → Type 0) → IfSome a (λ image. IfSome redo (λ r. P r image)) → IfSome redo (λ r. IfSome a (P r))
turned a None P both = tt
turned None (Some redo) P both = tt
turned (Some a) (Some redo) P both = both

row_first : (patch : PatchValue) (runs : List ShelfRun) (a : Option Image) (may_leave : Image → Type 0) → IfSome a (Holds (Some patch)) → OnlyKnown a may_leave → IfSome (at_runs patch (file_name_of patch.path) runs) (λ redo. IfSome a (IsReady redo) → InRow (Some redo) a may_leave)
row_first patch [] a may_leave holds only = tt
row_first patch (run ∷ runs) None may_leave holds only = λ ready. tt
row_first patch (run ∷ runs) (Some a) may_leave holds only = λ ready left may. row_plain patch (run ∷ runs) a left (held_sound patch (a log_name) holds.body) (only left may) ready

start_of : {D : Type 0} (d : DiskGhosts D) (start : D) (patch : PatchValue) (redo : Option RedoValue) → IfSome redo (IsLaying patch) → IfSome (d.image start) (λ image. is_open (image gate_name) ≡ true) → IfSome (d.image start) (Holds (Some patch))
    → IfSome redo (λ r. IfSome (d.image start) (IsReady r)) → IfSome redo (λ r. IfSome (d.image start) (IsReady r) → InRow (Some r) (d.image start) (d.may_leave start)) → OnlyKnown (d.image start) (d.may_leave start) → IfSome redo (Underway d start start)
start_of d start patch None laying gate holds ready row only = tt
start_of d start patch (Some redo) laying gate holds ready row only = record {
  patch = patch;
  laying = laying;
  gate = gate;
  holds = holds;
  so_far = start_known patch (d.image start);
  ready = ready;
  row = row ready;
  leaves = start_leaves d start only;
  later = omega arith;
}

start_by : {D : Type 0} (d : DiskGhosts D) (start : D) (patch : Option PatchValue) → IfSome (d.image start) (λ image. is_open (image gate_name) ≡ true) → IfSome (d.image start) (Holds patch) → OnlyKnown (d.image start) (d.may_leave start) → IfSome (resumed patch) (Underway d start start)
start_by d start None gate holds only = tt
start_by d start (Some patch) gate holds only =
    start_of d start patch (resumed (Some patch)) (laying_first patch) gate holds (turned (d.image start) (resumed (Some patch)) IsReady (ready_first patch (d.image start) gate holds))
    (row_first patch (runs_of patch) (d.image start) (d.may_leave start) holds only) only

pub underway_start : {D : Type 0} (d : DiskGhosts D) (start : D) (redo : Option RedoValue) → IsBehindGate (d.image start) redo → OnlyKnown (d.image start) (d.may_leave start) → IfSome redo (Underway d start start)
underway_start d start redo behind only = subst (λ (r : Option RedoValue). IfSome r (Underway d start start)) (sym behind.held.is) (start_by d start behind.held.patch behind.gate behind.held.holds only)

-- ---- a step

-- what a crash leaves between two rows opens as the start does
between_opens : {D : Type 0} (d : DiskGhosts D) (start x y : D) (redo : RedoValue) (behind : Option RedoValue) → Underway d start x redo → ((left : Image) → IfSome (d.image y) (λ now. MayLeave behind now left) → Opens (d.image start) left)
    → LeavesOnly d.moment d.left_since x y (InEither (Some redo) behind (d.image x) (d.image y)) → LeavesOnly d.moment d.left_since start y (Opens (d.image start))
between_opens d start x y redo behind u last leaves =
    leaves_both d.moment d.left_since start x y (Opens (d.image start)) u.leaves
    (leaves_more d.moment d.left_since x y (InEither (Some redo) behind (d.image x) (d.image y)) (Opens (d.image start))
    (λ left either. ⊎_elim (row_known u.patch redo (d.image start) (d.image x) left u.gate u.holds u.laying u.so_far u.ready) (last left) either) leaves)

pub underway_step : {D : Type 0} (d : DiskGhosts D) (start x y : D) (redo new : RedoValue) → Underway d start x redo → TakesStep redo new (d.image x) (d.image y) → IfSome (d.image y) (IsReady new) → StaysInRows d (Some redo) (Some new) x y → d.faults x ≤ d.faults y → Underway d start y new
underway_step d start x y redo new u takes ready rows later =
    let laying : IsLaying u.patch new = subst (IsLaying u.patch) (sym takes.is) (laying_next u.patch redo takes.next u.laying takes.leads) in
    let so_far : WhereKnown (d.image start) (d.image y) (Onward u.patch) =
    onward_known u.patch redo (Taken redo (Some takes.next)) (d.image start) (d.image x) (d.image y) (λ a b c past taken. onward_called u.patch redo (Some takes.next) a b c u.laying past taken.calls) u.so_far takes.taken in
    record {
      patch = u.patch;
      laying = laying;
      gate = u.gate;
      holds = u.holds;
      so_far = so_far;
      ready = ready;
      row = rows.row;
      leaves = between_opens d start x y redo (Some new) u (λ left row. row_known u.patch new (d.image start) (d.image y) left u.gate u.holds laying so_far ready row) rows.leaves;
      later = omega (arith, u.later, later);
    }

-- ---- a step that failed

pub underway_failed : {D : Type 0} (d : DiskGhosts D) (start x y : D) (redo new : RedoValue) → Underway d start x redo → TakesNone redo new (d.image x) (d.image y) → IfSome (d.image y) (IsReady redo) → LeavesOnly d.moment d.left_since x y (InEither (Some redo) (Some redo) (d.image x) (d.image y))
    → WhereKnown (d.image start) (d.image y) OpensAs × LeavesOnly d.moment d.left_since start y (Opens (d.image start))
underway_failed d start x y redo new u takes ready leaves =
    let so_far : WhereKnown (d.image start) (d.image y) (Onward u.patch) =
    onward_known u.patch redo (Failed redo) (d.image start) (d.image x) (d.image y) (λ a b c past failed. onward_failed u.patch redo a b c u.laying past failed.touches) u.so_far takes.failed in (
      self_known u.patch redo (d.image start) (d.image y) u.gate u.holds u.laying so_far ready,
      between_opens d start x y redo (Some redo) u (λ left row. row_known u.patch redo (d.image start) (d.image y) left u.gate u.holds u.laying so_far ready row) leaves,
    )

-- ---- the last step

last_known : (patch : PatchValue) (redo : RedoValue) (a x y : Option Image) → IfSome a (λ image. is_open (image gate_name) ≡ true) → IfSome a (Holds (Some patch)) → IsLaying patch redo → WhereKnown a x (Onward patch) → IfSome x (IsReady redo)
    → IfSome redo.drain (λ drain. Leads drain redo.next None) → WhereKnown x y (Taken redo None) → WhereKnown a y LaysAll × ((left : Image) → IfSome y (λ now. LeavesClosed now left) → Opens a left)
last_known patch redo None None None gate holds laying so_far ready leads taken = (tt, λ left row. tt)
last_known patch redo None None (Some y) gate holds laying so_far ready leads taken = absurd taken
last_known patch redo None (Some x) y gate holds laying so_far ready leads taken = absurd so_far
last_known patch redo (Some a) None y gate holds laying so_far ready leads taken = absurd so_far
last_known patch redo (Some a) (Some x) None gate holds laying so_far ready leads taken = absurd taken
last_known patch redo (Some a) (Some x) (Some y) gate holds laying so_far ready leads taken =
    let same : SameImage x y = last_same patch redo x y laying leads taken.calls in
    let s = last_stands patch redo x laying leads ready in
    let file : IsSomeAnd (y (file_name_of patch.path)) (IsPartWritten patch []) = subst (λ (held : Option (List ℕ)). IsSomeAnd held (IsPartWritten patch [])) (sym (same (file_name_of patch.path))) s.file in
    let on : Onward patch a y = onward_same patch a x y so_far same in (
      record {
        gate = open_is (a gate_name) gate;
        patch = Some patch;
        holds = holds;
        rings = last_laid patch a y y holds on file (λ name no_log no_gate. refl);
        closed = subst IsClosed (sym (same gate_name)) s.gate;
      },
      λ left row. last_opens patch a y left gate holds on file row,
    )

pub underway_last : {D : Type 0} (d : DiskGhosts D) (start x y : D) (redo : RedoValue) → Underway d start x redo → TakesLast redo (d.image x) (d.image y) → LeavesOnly d.moment d.left_since x y (InEither (Some redo) None (d.image x) (d.image y))
    → WhereKnown (d.image start) (d.image y) LaysAll × LeavesOnly d.moment d.left_since start y (Opens (d.image start))
underway_last d start x y redo u takes leaves =
    let all = last_known u.patch redo (d.image start) (d.image x) (d.image y) u.gate u.holds u.laying u.so_far u.ready takes.leads takes.taken in
    (all.0, between_opens d start x y redo None u all.1 leaves)

-- ---- the same of a redo that may be empty

pub loop_starts : {D : Type 0} (d : DiskGhosts D) (start : D) (redo : Option RedoValue) → redo ≢ None → IsBehindGate (d.image start) redo → OnlyKnown (d.image start) (d.may_leave start) → IsSomeAnd redo (Underway d start start)
loop_starts d start None some behind only = absurd (some refl)
loop_starts d start (Some redo) some behind only = underway_start d start (Some redo) behind only

pub loop_goes : {D : Type 0} (d : DiskGhosts D) (start x y : D) (redo new : Option RedoValue) → IsSomeAnd redo (Underway d start x) → RedoEnds Run redo new (d.image x) (d.image y) → IfSome new (λ r. IfSome (d.image y) (IsReady r))
    → (InRow redo (d.image x) (d.may_leave x) → StaysInRows d redo new x y) → d.faults x ≤ d.faults y → IsSomeAnd new (Underway d start y)
loop_goes d start x y None new u ends ready rows later = absurd u
loop_goes d start x y (Some redo) None u ends ready rows later = absurd cc
loop_goes d start x y (Some redo) (Some new) u ends ready rows later = underway_step d start x y redo new u ends ready (rows u.row) later

-- what stands at the end
pub record Ended {D : Type 0} (d : DiskGhosts D) (start now : D) (P : Image → Image → Type 0) : Type 0 where
  pub ends : WhereKnown (d.image start) (d.image now) P
  pub leaves : LeavesOnly d.moment d.left_since start now (Opens (d.image start))
  pub later : d.faults start ≤ d.faults now

pub loop_last : {D : Type 0} (d : DiskGhosts D) (start x y : D) (redo new : Option RedoValue) → IsSomeAnd redo (Underway d start x) → RedoEnds Finished redo new (d.image x) (d.image y) → (InRow redo (d.image x) (d.may_leave x) → StaysInRows d redo new x y)
    → d.faults x ≤ d.faults y → Ended d start y LaysAll × InRow None (d.image y) (d.may_leave y)
loop_last d start x y None new u ends rows later = absurd u
loop_last d start x y (Some redo) (Some new) u ends rows later = absurd ends
loop_last d start x y (Some redo) None u ends rows later =
    let all = underway_last d start x y redo u ends.1 (rows u.row).leaves in
    (record { ends = all.0; leaves = all.1; later = omega (arith, u.later, later) }, (rows u.row).row)

pub loop_failed : {D : Type 0} (d : DiskGhosts D) (start x y : D) (redo new : Option RedoValue) → IsSomeAnd redo (Underway d start x) → RedoEnds DiskFault redo new (d.image x) (d.image y) → IfSome new (λ r. IfSome (d.image y) (IsReady r))
    → (InRow redo (d.image x) (d.may_leave x) → StaysInRows d redo new x y) → d.faults x ≤ d.faults y → Ended d start y OpensAs
loop_failed d start x y None new u ends ready rows later = absurd u
loop_failed d start x y (Some redo) None u ends ready rows later = absurd cc
loop_failed d start x y (Some redo) (Some new) u ends ready rows later =
    let here : IfSome (d.image y) (IsReady redo) = subst (λ (r : RedoValue). IfSome (d.image y) (IsReady r)) ends.is ready in
    let leaves : LeavesOnly d.moment d.left_since x y (InEither (Some redo) (Some redo) (d.image x) (d.image y)) =
    subst (λ (r : RedoValue). LeavesOnly d.moment d.left_since x y (InEither (Some redo) (Some r) (d.image x) (d.image y))) ends.is (rows u.row).leaves in
    let all = underway_failed d start x y redo new u ends here leaves in
    record { ends = all.0; leaves = all.1; later = omega (arith, u.later, later) }

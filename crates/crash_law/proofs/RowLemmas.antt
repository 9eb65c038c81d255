-- What an image starts as that a crash leaves by the next step of the log.
use Rattle.std.proofs.Common.{◌≡◌, inl, inr, ⊎_elim, ◌∙◌, ℕ, Bool, true, false, List, [], Option, Some, None, IfSome, IsSomeAnd, refl, sym, subst}
use Rattle.std.specs.Prelude.{◌⊎◌, IsSome}
use Rattle.outside_io.specs.Image.{Image}
use Rattle.metric_path.specs.FileName.{file_name_of}
use Rattle.ring_format.specs.Patch.{PatchValue}
use Rattle.ring_archive.specs.Ring.{IsRingFile, ReadsAs, Rings, UnderPatch}
use Rattle.ring_writer.specs.PartWritten.{StaysRing}
use Rattle.write_shelf.specs.Shelf.{DrainValue}
use Rattle.redo_log.specs.Body.{IsBody, body_bytes}
use Rattle.redo_log.specs.Recovery.{Holds, is_open}
use Rattle.redo_log.specs.Rows.{LeavesBy, LeavesClosed, LeavesEither, LeavesOpen, MayLeave}
use Rattle.redo_log.specs.Steps.{RedoValue, gate_name, log_name, on_way}
use Rattle.redo_log.specs.declared.next_step.NextStep.{NextStep}
use Rattle.redo_log.specs.declared.next_step.NextStep.TheVariants.{CreateLog, FirstPiece, Piece, SyncBody, OpenGate, SyncOpen, Run, SyncRuns, CloseGate, SyncClose}
use Rattle.redo_log.proofs.RunRows.{over_under, under_over}
use Rattle.carbon_model.specs.RingFiles.{IsOfClass, StandsUnder}
use Rattle.carbon_model.specs.State.{Kept}
use Rattle.shard_core.specs.Shard.{HoldsShelf, patch_on}
use Rattle.shard_core.specs.Table.{Table}
use Rattle.shard_core.specs.Work.{drain_at, drain_of}
use Rattle.shard_core.proofs.LogLemmas.{ring_same, rings_stand}
use Rattle.shard_core.proofs.WriteLemmas.{alone_stands}
use Rattle.crash_law.specs.StartsAs.{StartsAs}
use Rattle.crash_law.proofs.MoveLemmas.{torn_stands}
use Rattle.crash_law.proofs.OpenLemmas.{closed_unopened, is_opened, starts_open, starts_shut}

-- whether no run of the patch was to be written yet
abbrev pub is_early : NextStep → Bool
is_early CreateLog = true
is_early FirstPiece = true
is_early (Piece written) = true
is_early SyncBody = true
is_early OpenGate = true
is_early SyncOpen = true
is_early Run = false
is_early SyncRuns = false
is_early CloseGate = false
is_early SyncClose = false

abbrev pub early_in : Option RedoValue → Bool
early_in None = false
early_in (Some redo) = is_early redo.next

-- it starts as what is kept, or, while no run was to be written, as what is settled
abbrev pub StartsEither : Bool → ℕ → Image → (List ℕ → Option Kept) → (List ℕ → Option Kept) → Image → Type 0
StartsEither early class told kept settled left = StartsAs class told kept left ⊎ ((early ≡ true) × StartsAs class told settled left)

-- ---- a closed gate

closed_starts : (told now left : Image) (class : ℕ) (kept : List ℕ → Option Kept) → StandsUnder told now None kept class → LeavesClosed now left → StartsAs class told kept left
closed_starts told now left class kept stands row = starts_shut told left kept class (closed_unopened (left gate_name) row.gate) (rings_stand told now left None kept class row.rings stands)

-- ---- the body in the log

log_body : (patch : PatchValue) (left : Image) → IsBody (body_bytes patch) (Some patch) → left log_name ≡ Some (body_bytes patch) → IsSomeAnd (left log_name) (λ bytes. IsBody bytes (Some patch))
log_body patch left body log = subst (λ (held : Option (List ℕ)). IsSomeAnd held (λ bytes. IsBody bytes (Some patch))) (sym log) body

either_holds : (told now left : Image) (patch : PatchValue) (class : ℕ) (kept : List ℕ → Option Kept) → StandsUnder told now (Some patch) kept class → LeavesEither patch now left → Holds (Some patch) left
either_holds told now left patch class kept stands row = record {
  body = log_body patch left (row.sound, refl) row.log;
  ring = λ over. subst (λ (held : Option (List ℕ)). IsSomeAnd held (IsRingFile patch.layout)) (sym (ring_same now left patch.path row.rings)) (stands.patched over);
}

-- the gate is open or closed, and the rings are as they read, alone and under the patch
either_starts : (told now left : Image) (patch : PatchValue) (class : ℕ) (kept alone : List ℕ → Option Kept) → IsOfClass class patch.path → StandsUnder told now (Some patch) kept class → StandsUnder told now None alone class
    → LeavesEither patch now left → StartsAs class told kept left ⊎ StartsAs class told alone left
either_starts told now left patch class kept alone one stands bare row = by (is_open (left gate_name)) refl
  where
    by : (b : Bool) → is_open (left gate_name) ≡ b → StartsAs class told kept left ⊎ StartsAs class told alone left
    by true is = inl (starts_open told left patch kept class one row.sound.lawful (is_opened (left gate_name) is) (either_holds told now left patch class kept stands row) (rings_stand told now left (Some patch) kept class row.rings stands))
    by false is = inr (starts_shut told left alone class is (rings_stand told now left None alone class row.rings bare))

-- ---- an open gate

torn_under : (patch : PatchValue) (now left : Image) → (patch.fresh ≡ false → StaysRing patch (file_name_of patch.path) now left) → (rings : Rings)
    → UnderPatch patch.fresh (Some now) (file_name_of patch.path) (λ file. ReadsAs patch file rings) → UnderPatch patch.fresh (Some left) (file_name_of patch.path) (λ file. ReadsAs patch file rings)
torn_under patch now left ring rings reads = by patch.fresh refl
  where
    by : (fresh : Bool) → patch.fresh ≡ fresh → UnderPatch patch.fresh (Some left) (file_name_of patch.path) (λ file. ReadsAs patch file rings)
    by true is = subst (λ (b : Bool). UnderPatch b (Some left) (file_name_of patch.path) (λ file. ReadsAs patch file rings)) (sym is)
        (subst (λ (b : Bool). UnderPatch b (Some now) (file_name_of patch.path) (λ file. ReadsAs patch file rings)) is reads)
    by false is = over_under patch.fresh left (file_name_of patch.path) (λ file. ReadsAs patch file rings) is
        ((ring is).reads rings (under_over patch.fresh now (file_name_of patch.path) (λ file. ReadsAs patch file rings) is reads))

open_starts : (told now left : Image) (patch : PatchValue) (name : List ℕ) (class : ℕ) (kept : List ℕ → Option Kept) → IsOfClass class patch.path → StandsUnder told now (Some patch) kept class → LeavesOpen patch name now left → StartsAs class told kept left
open_starts told now left patch name class kept one stands row =
    starts_open told left patch kept class one row.sound.lawful row.gate
    (record { body = log_body patch left (row.sound, refl) row.log; ring = λ over. (ring over).whole })
    (torn_stands told now left patch kept class one others (torn_under patch now left ring) (λ over. (ring over).whole) stands)
  where
    ring : patch.fresh ≡ false → StaysRing patch (file_name_of patch.path) now left
    ring over = subst (λ (n : List ℕ). StaysRing patch n now left) row.named
        (row.ring over (subst (λ (n : List ℕ). IsSomeAnd (now n) (IsRingFile patch.layout)) (sym row.named) (stands.patched over)))

    others : (other : List ℕ) → (other ≡ log_name → ⊥) → (other ≡ gate_name → ⊥) → (other ≡ file_name_of patch.path → ⊥) → left other ≡ now other
    others other no_log no_gate no_file = row.others other no_log no_gate (λ e. no_file (e ∙ row.named))

-- ---- each row

both_kept : (class : ℕ) (told left : Image) (kept : List ℕ → Option Kept) → StartsAs class told kept left ⊎ StartsAs class told kept left → StartsAs class told kept left
both_kept class told left kept either = ⊎_elim (λ one. one) (λ other. other) either

late_starts : (told now left : Image) (drain : DrainValue) (class : ℕ) (table : Table) (kept : List ℕ → Option Kept) → HoldsShelf class table (Some (record { patch = drain.patch; left = [] })) (Some now) → StandsUnder told now (Some drain.patch) kept class
    → LeavesEither drain.patch now left → StartsAs class told kept left
late_starts told now left drain class table kept on stands row =
    let one : IsOfClass class drain.patch.path = record { legal = on.0.legal; here = on.0.here } in
    both_kept class told left kept (either_starts told now left drain.patch class kept kept one stands (alone_stands told now drain.patch kept class one on.0.lawful on.1.far stands) row)

early_starts : (told now left : Image) (drain : DrainValue) (class : ℕ) (table : Table) (kept settled : List ℕ → Option Kept) → HoldsShelf class table (Some drain) (Some now) → StandsUnder told now (Some drain.patch) kept class → StandsUnder told now None settled class
    → LeavesEither drain.patch now left → StartsEither true class told kept settled left
early_starts told now left drain class table kept settled on stands bare row =
    ⊎_elim (λ starts. inl starts) (λ starts. inr (refl, starts)) (either_starts told now left drain.patch class kept settled (record { legal = on.0.legal; here = on.0.here }) stands bare row)

run_starts : (told now left : Image) (drain : DrainValue) (runs : DrainValue) (name : List ℕ) (class : ℕ) (table : Table) (kept : List ℕ → Option Kept) → runs.patch ≡ drain.patch → HoldsShelf class table (Some runs) (Some now) → StandsUnder told now (Some drain.patch) kept class
    → LeavesOpen drain.patch name now left → StartsAs class told kept left
run_starts told now left drain runs name class table kept its on stands row =
    open_starts told now left drain.patch name class kept (subst (λ (p : PatchValue). IsOfClass class p.path) its (record { legal = on.0.legal; here = on.0.here })) stands row

step_starts : (told now left : Image) (drain : DrainValue) (name : List ℕ) (next : NextStep) (class : ℕ) (table : Table) (kept settled : List ℕ → Option Kept) → HoldsShelf class table (drain_at next (Some drain)) (Some now)
    → StandsUnder told now (Some drain.patch) kept class → (is_early next ≡ true → StandsUnder told now None settled class) → LeavesBy drain.patch name next now left → StartsEither (is_early next) class told kept settled left
step_starts told now left drain name CreateLog class table kept settled on stands bare row = inr (refl, closed_starts told now left class settled (bare refl) row)
step_starts told now left drain name FirstPiece class table kept settled on stands bare row = inr (refl, closed_starts told now left class settled (bare refl) row)
step_starts told now left drain name (Piece written) class table kept settled on stands bare row = inr (refl, closed_starts told now left class settled (bare refl) row)
step_starts told now left drain name SyncBody class table kept settled on stands bare row = inr (refl, closed_starts told now left class settled (bare refl) row)
step_starts told now left drain name OpenGate class table kept settled on stands bare row = early_starts told now left drain class table kept settled on stands (bare refl) row
step_starts told now left drain name SyncOpen class table kept settled on stands bare row = early_starts told now left drain class table kept settled on stands (bare refl) row
step_starts told now left drain name Run class table kept settled on stands bare row = inl (run_starts told now left drain drain name class table kept refl on stands row)
step_starts told now left drain name SyncRuns class table kept settled on stands bare row = inl (run_starts told now left drain (record { patch = drain.patch; left = [] }) name class table kept refl on stands row)
step_starts told now left drain name CloseGate class table kept settled on stands bare row = inl (late_starts told now left drain class table kept on stands row)
step_starts told now left drain name SyncClose class table kept settled on stands bare row = inl (late_starts told now left drain class table kept on stands row)

drain_starts : (told now left : Image) (drain : Option DrainValue) (name : List ℕ) (next : NextStep) (class : ℕ) (table : Table) (kept settled : List ℕ → Option Kept) → IsSome drain → HoldsShelf class table (drain_at next drain) (Some now)
    → StandsUnder told now (patch_on (drain_at next drain)) kept class → (is_early next ≡ true → StandsUnder told now None settled class) → MayLeave (Some (on_way drain name next)) now left → StartsEither (is_early next) class told kept settled left
drain_starts told now left None name next class table kept settled some on stands bare row = absurd cc
drain_starts told now left (Some drain) name next class table kept settled some on stands bare row = step_starts told now left drain name next class table kept settled on stands bare row

-- An image that a crash may leave by the next step starts as what is kept, or, while no run was to be written, as what is settled.
pub row_starts : (told now left : Image) (redo : Option RedoValue) (class : ℕ) (table : Table) (kept settled : List ℕ → Option Kept) → IfSome redo (λ r. IsSome r.drain) → HoldsShelf class table (drain_of redo) (Some now)
    → StandsUnder told now (patch_on (drain_of redo)) kept class → (early_in redo ≡ true → StandsUnder told now None settled class) → MayLeave redo now left → StartsEither (early_in redo) class told kept settled left
row_starts told now left None class table kept settled some on stands bare row = inl (closed_starts told now left class kept stands row)
row_starts told now left (Some redo) class table kept settled some on stands bare row = drain_starts told now left redo.drain redo.name redo.next class table kept settled some on stands bare row

-- A step of the log: what the disk under the shelf keeps stays.
use Rattle.std.proofs.Common.{◌≡◌, ◌≢◌, ◌∙◌, ℕ, ◌≤◌, ◌==◌, Bool, true, false, cond, List, [], ◌∷◌, length, Option, None, Some, IfSome, IsSomeAnd, refl, sym, ap, subst, arith}
use Rattle.std.specs.Prelude.{drop, option_and_then, slice_get, if◌then◌else◌}
use Rattle.std.specs.Str.{bytes_eq}
use Rattle.std.proofs.lemmas.Bool.{eqb-true}
use Rattle.outside_io.specs.Image.{Image, ChangesOnly, SameImage, WhereKnown}
use Rattle.metric_path.specs.FileName.{file_name_of}
use Rattle.ring_format.specs.Patch.{PatchValue}
use Rattle.ring_archive.specs.Ring.{IsRingFile}
use Rattle.ring_writer.specs.PartWritten.{Awaits, ComesTo}
use Rattle.write_shelf.specs.Shelf.{DrainValue, IsBegun, IsRunOf, OfNext, drain_with}
use Rattle.write_shelf.specs.declared.run.Run.{Run as ShelfRun}
use Rattle.redo_log.specs.Ends.{TakesLast, TakesNone, TakesStep}
use Rattle.redo_log.specs.Rows.{KeepsRings}
use Rattle.redo_log.specs.Steps.{Calls, Failed, IsClosed, IsGoing, IsNamed, IsReady, Leads, RedoValue, Stands, Taken, Touches, behind_cells, behind_run, gate_name, is_run, log_name, on_way, with_next}
use Rattle.redo_log.specs.declared.next_step.NextStep.{NextStep}
use Rattle.redo_log.specs.declared.next_step.NextStep.TheVariants.{CreateLog, FirstPiece, Piece, SyncBody, OpenGate, SyncOpen, Run as RunStep, SyncRuns, CloseGate, SyncClose}
use Rattle.redo_log.proofs.StepLemmas.{file_is_no_gate, file_is_no_log}
use Rattle.carbon_model.specs.State.{Kept}
use Rattle.carbon_model.specs.RingFiles.{SameKept, StandsUnder, is_sound, kept_in, kept_through, kept_under}
use Rattle.shard_core.specs.Shard.{HasFiles, HoldsKept, HoldsShelf, IsLawfulRing, patch_on}
use Rattle.shard_core.specs.Table.{Table, kept_form}
use Rattle.shard_core.specs.Work.{GoesThrough, HoldsLog, drain_at, drain_of, left_at}
use Rattle.shard_core.specs.declared.planned.Wrote.{Wrote}
use Rattle.shard_core.specs.declared.planned.Wrote.TheVariants.{Run, Finished, Nothing, DiskFault}
use Rattle.shard_core.proofs.WriteLemmas.{Written, known_so, next_sound, stands_alone, under_written}

-- ---- the rings are as they were

pub ring_same : (x y : Image) (path : List ℕ) → KeepsRings x y → y (file_name_of path) ≡ x (file_name_of path)
ring_same x y path keeps = keeps (file_name_of path) (file_is_no_log path) (file_is_no_gate path)

kept_same : (patch : Option PatchValue) (x y : Image) (path : List ℕ) → y (file_name_of path) ≡ x (file_name_of path) → kept_under patch x path ≡ kept_under patch y path
kept_same None x y path same = ap (λ (held : Option (List ℕ)). option_and_then kept_in held) (sym same)
kept_same (Some p) x y path same = ap (λ (held : Option (List ℕ)). if bytes_eq p.path path then Some (kept_through p held) else option_and_then kept_in held) (sym same)

patched_same : (patch : Option PatchValue) (x y : Image) → KeepsRings x y → IfSome patch (λ p. p.fresh ≡ false → IsSomeAnd (x (file_name_of p.path)) (IsRingFile p.layout)) → IfSome patch (λ p. p.fresh ≡ false → IsSomeAnd (y (file_name_of p.path)) (IsRingFile p.layout))
patched_same None x y keeps ring = tt
patched_same (Some p) x y keeps ring = λ old. subst (λ (held : Option (List ℕ)). IsSomeAnd held (IsRingFile p.layout)) (sym (ring_same x y p.path keeps)) (ring old)

pub rings_stand : (opening x y : Image) (patch : Option PatchValue) (kept : List ℕ → Option Kept) (class : ℕ) → KeepsRings x y → StandsUnder opening x patch kept class → StandsUnder opening y patch kept class
rings_stand opening x y patch kept class keeps stands = record {
  rings = λ path one. subst (λ (k : Option Kept). SameKept k (kept path)) (kept_same patch x y path (ring_same x y path keeps)) (stands.rings path one);
  sound = λ path one apart. subst (λ (held : Option (List ℕ)). IfSome held (λ file. is_sound file ≡ true)) (sym (ring_same x y path keeps)) (stands.sound path one apart);
  patched = patched_same patch x y keeps stands.patched;
  others = λ name no_log no_gate far. keeps name no_log no_gate ∙ stands.others name no_log no_gate far;
}

pub files_keep : (class : ℕ) (table : Table) (patch : Option PatchValue) (x y : Image) → KeepsRings x y → HasFiles class table patch (Some x) → HasFiles class table patch (Some y)
files_keep class table patch x y keeps files = λ path legal one apart.
    subst (λ (held : Option (List ℕ)). IfSome (kept_form table path) (λ form. IsSomeAnd held (IsLawfulRing form.0 form.1))) (sym (ring_same x y path keeps)) (files path legal one apart)

shelf_keeps : (class : ℕ) (table : Table) (shelf : Option DrainValue) (x y : Image) → KeepsRings x y → HoldsShelf class table shelf (Some x) → HoldsShelf class table shelf (Some y)
shelf_keeps class table None x y keeps on = tt
shelf_keeps class table (Some drain) x y keeps on = (
  on.0,
  record {
    far = subst (Awaits drain.patch drain.left) (sym (ring_same x y drain.patch.path keeps)) on.1.far;
    ring = λ old. subst (λ (held : Option (List ℕ)). IsSomeAnd held (IsRingFile drain.patch.layout)) (sym (ring_same x y drain.patch.path keeps)) (on.1.ring old);
  },
)

keep_known : (told : Option Image) (class : ℕ) (table : Table) (patch : Option PatchValue) (x y : Image) (kept : List ℕ → Option Kept) → KeepsRings x y → HoldsKept told class table patch (Some x) kept → HoldsKept told class table patch (Some y) kept
keep_known told class table patch x y kept keeps holds = record { layouts = holds.layouts; files = by told holds.files }
  where
    by : (t : Option Image) → WhereKnown t (Some x) (λ opening now. StandsUnder opening now patch kept class) → WhereKnown t (Some y) (λ opening now. StandsUnder opening now patch kept class)
    by None files = absurd files
    by (Some opening) files = rings_stand opening x y patch kept class keeps files

pub rings_written : (class : ℕ) (table : Table) (shelf : Option DrainValue) (x y : Image) → KeepsRings x y → HoldsShelf class table shelf (Some x) → Written class table shelf shelf (Some x) (Some y)
rings_written class table shelf x y keeps on = record {
  files = files_keep class table (patch_on shelf) x y keeps;
  shelf = shelf_keeps class table shelf x y keeps on;
  kept = λ told kept. keep_known told class table (patch_on shelf) x y kept keeps;
}

pub same_written : (class : ℕ) (table : Table) (shelf : Option DrainValue) (known : Option Image) → HoldsShelf class table shelf known → Written class table shelf shelf known known
same_written class table shelf known on = record { files = λ files. files; shelf = on; kept = λ told kept holds. holds }

-- a disk that tells nothing
untold_alone : (class : ℕ) (table : Table) (patch : PatchValue) (left : List ShelfRun) → Written class table (Some (record { patch = patch; left = left })) None None None
untold_alone class table patch left = record { files = λ files. tt; shelf = tt; kept = λ told kept holds. record { layouts = holds.layouts; files = none_told told kept holds.files } }
  where
    none_told : (told : Option Image) (kept : List ℕ → Option Kept) → WhereKnown told None (λ opening now. StandsUnder opening now (Some patch) kept class) → WhereKnown told None (λ opening now. StandsUnder opening now None kept class)
    none_told None kept files = tt
    none_told (Some opening) kept files = absurd files

-- ---- a step

abbrev With : PatchValue → List ShelfRun → DrainValue
With patch left = record { patch = patch; left = left }

abbrev At : PatchValue → List ShelfRun → NextStep → RedoValue
At patch left now = on_way (Some (With patch left)) (file_name_of patch.path) now

but_log : (x y : Image) → ChangesOnly x y log_name → KeepsRings x y
but_log x y only = λ name no_log no_gate. only name no_log

but_gate : (x y : Image) → ChangesOnly x y gate_name → KeepsRings x y
but_gate x y only = λ name no_log no_gate. only name no_gate

but_none : (x y : Image) → SameImage x y → KeepsRings x y
but_none x y same = λ name no_log no_gate. same name

some_is : {X : Type 0} (x y : X) → Some x ≡ Some y → x ≡ y
some_is x y e = cc

-- behind a piece
piece_shelf : (b : Bool) (patch : PatchValue) (left : List ShelfRun) (now : NextStep) (written : ℕ) → is_run now ≡ false → drain_of (Some (with_next (At patch left now) (cond b SyncBody (Piece written)))) ≡ Some (With patch left)
piece_shelf true patch left now written run = refl
piece_shelf false patch left now written run = refl

-- behind a run
last_left : (left : List ShelfRun) → (length left == 1) ≡ true → drop 1 left ≡ []
last_left [] last = absurd cc
last_left (run ∷ []) last = refl
last_left (run ∷ next ∷ left) last = absurd (omega (arith, eqb-true (length (run ∷ next ∷ left)) 1 last))

more_left : (patch : PatchValue) (left : List ShelfRun) → 1 ≤ length left → (length left == 1) ≡ false → drain_at RunStep (drain_with patch (drop 1 left)) ≡ Some (With patch (drop 1 left))
more_left patch [] some more = absurd (omega (arith, some))
more_left patch (run ∷ []) some more = absurd cc
more_left patch (run ∷ next ∷ left) some more = refl

run_shelf : (b : Bool) (patch : PatchValue) (left : List ShelfRun) → 1 ≤ length left → (length left == 1) ≡ b → drain_of (Some (with_next (At patch left RunStep) (cond b SyncRuns RunStep))) ≡ Some (With patch (drop 1 left))
run_shelf true patch left some last = ap (λ (runs : List ShelfRun). Some (With patch runs)) (sym (last_left left last))
run_shelf false patch left some more = more_left patch left some more

abbrev Shelf : PatchValue → List ShelfRun → NextStep → NextStep → Option DrainValue
Shelf patch left now behind = drain_of (Some (with_next (At patch left now) behind))

-- what stands on the shelf behind a step that writes no run
shelf_kept : (patch : PatchValue) (left : List ShelfRun) (now behind : NextStep) → is_run now ≡ false → Leads (With patch left) now (Some behind) → Shelf patch left now behind ≡ Some (With patch (left_at now left))
shelf_kept patch left CreateLog behind run leads = subst (λ (n : NextStep). Shelf patch left CreateLog n ≡ Some (With patch left)) (sym (some_is behind FirstPiece leads.0)) refl
shelf_kept patch left FirstPiece behind run leads =
    subst (λ (n : NextStep). Shelf patch left FirstPiece n ≡ Some (With patch left)) (sym (some_is behind (behind_cells patch leads.0.written) leads.0.is)) (piece_shelf (leads.0.written == length patch.cells) patch left FirstPiece leads.0.written refl)
shelf_kept patch left (Piece from) behind run leads =
    subst (λ (n : NextStep). Shelf patch left (Piece from) n ≡ Some (With patch left)) (sym (some_is behind (behind_cells patch leads.0.written) leads.0.is)) (piece_shelf (leads.0.written == length patch.cells) patch left (Piece from) leads.0.written refl)
shelf_kept patch left SyncBody behind run leads = subst (λ (n : NextStep). Shelf patch left SyncBody n ≡ Some (With patch left)) (sym (some_is behind OpenGate leads.0)) refl
shelf_kept patch left OpenGate behind run leads = subst (λ (n : NextStep). Shelf patch left OpenGate n ≡ Some (With patch left)) (sym (some_is behind SyncOpen leads.0)) refl
shelf_kept patch left SyncOpen behind run leads = subst (λ (n : NextStep). Shelf patch left SyncOpen n ≡ Some (With patch left)) (sym (some_is behind RunStep leads.0)) refl
shelf_kept patch left RunStep behind run leads = absurd cc
shelf_kept patch left SyncRuns behind run leads = subst (λ (n : NextStep). Shelf patch left SyncRuns n ≡ Some (With patch [])) (sym (some_is behind CloseGate leads.0)) refl
shelf_kept patch left CloseGate behind run leads = subst (λ (n : NextStep). Shelf patch left CloseGate n ≡ Some (With patch [])) (sym (some_is behind SyncClose leads.0)) refl
shelf_kept patch left SyncClose behind run leads = absurd cc

-- what its call does, and one that fails
call_keeps : (patch : PatchValue) (left : List ShelfRun) (now : NextStep) (behind : Option NextStep) (x y : Image) → is_run now ≡ false → Calls (With patch left) (file_name_of patch.path) now behind x y → KeepsRings x y
call_keeps patch left CreateLog behind x y run calls = but_log x y calls.1
call_keeps patch left FirstPiece behind x y run calls = but_log x y calls.puts.1
call_keeps patch left (Piece written) behind x y run calls = but_log x y calls.puts.1
call_keeps patch left SyncBody behind x y run calls = but_none x y calls
call_keeps patch left OpenGate behind x y run calls = but_gate x y calls.1
call_keeps patch left SyncOpen behind x y run calls = but_none x y calls
call_keeps patch left RunStep behind x y run calls = absurd cc
call_keeps patch left SyncRuns behind x y run calls = but_none x y calls
call_keeps patch left CloseGate behind x y run calls = but_gate x y calls.1
call_keeps patch left SyncClose behind x y run calls = but_none x y calls

fail_keeps : (patch : PatchValue) (left : List ShelfRun) (now : NextStep) (x y : Image) → is_run now ≡ false → Touches (With patch left) (file_name_of patch.path) now x y → KeepsRings x y
fail_keeps patch left CreateLog x y run touches = but_log x y touches
fail_keeps patch left FirstPiece x y run touches = but_log x y touches.tears.1
fail_keeps patch left (Piece written) x y run touches = but_log x y touches.tears.1
fail_keeps patch left SyncBody x y run touches = but_none x y touches
fail_keeps patch left OpenGate x y run touches = but_gate x y touches.1
fail_keeps patch left SyncOpen x y run touches = but_none x y touches
fail_keeps patch left RunStep x y run touches = absurd cc
fail_keeps patch left SyncRuns x y run touches = but_none x y touches
fail_keeps patch left CloseGate x y run touches = but_gate x y touches.1
fail_keeps patch left SyncClose x y run touches = but_none x y touches

-- the rings as they were, whether they are told or not
known_written : (class : ℕ) (table : Table) (shelf : Option DrainValue) (known known' : Option Image) → WhereKnown known known' KeepsRings → HoldsShelf class table shelf known → Written class table shelf shelf known known'
known_written class table shelf None None keeps on = same_written class table shelf None on
known_written class table shelf None (Some y) keeps on = absurd keeps
known_written class table shelf (Some x) None keeps on = absurd keeps
known_written class table shelf (Some x) (Some y) keeps on = rings_written class table shelf x y keeps on

-- ---- a step that was taken

abbrev CallsStep : PatchValue → List ShelfRun → NextStep → Option NextStep → Image → Image → Type 0
CallsStep patch left now behind x y = Calls (With patch left) (file_name_of patch.path) now behind x y

kept_case : (class : ℕ) (table : Table) (patch : PatchValue) (left : List ShelfRun) (now behind : NextStep) (known known' : Option Image) → is_run now ≡ false → Leads (With patch left) now (Some behind) → WhereKnown known known' (CallsStep patch left now (Some behind))
    → HoldsShelf class table (Some (With patch (left_at now left))) known → Written class table (Some (With patch (left_at now left))) (Shelf patch left now behind) known known'
kept_case class table patch left now behind known known' run leads calls on =
    subst (λ (shelf : Option DrainValue). Written class table (Some (With patch (left_at now left))) shelf known known') (sym (shelf_kept patch left now behind run leads))
    (known_written class table (Some (With patch (left_at now left))) known known' (known_so (CallsStep patch left now (Some behind)) KeepsRings (λ x y c. call_keeps patch left now (Some behind) x y run c) known known' calls) on)

run_sound : (b : Bool) (patch : PatchValue) (left : List ShelfRun) → (length left == 1) ≡ b → OfNext (with_next (At patch left RunStep) (cond b SyncRuns RunStep)).drain IsRunOf → IfSome (slice_get (drop 1 left) 0) (IsRunOf patch)
run_sound true patch left last sound = subst (λ (runs : List ShelfRun). IfSome (slice_get runs 0) (IsRunOf patch)) (sym (last_left left last)) tt
run_sound false patch left more sound = next_sound patch (drop 1 left) sound

run_case : (class : ℕ) (table : Table) (patch : PatchValue) (left : List ShelfRun) (behind : NextStep) (known known' : Option Image) → 1 ≤ length left → Leads (With patch left) RunStep (Some behind) → WhereKnown known known' (CallsStep patch left RunStep (Some behind))
    → OfNext (with_next (At patch left RunStep) behind).drain IsRunOf → HoldsShelf class table (Some (With patch left)) known → Written class table (Some (With patch left)) (Shelf patch left RunStep behind) known known'
run_case class table patch left behind known known' some leads calls sound on =
    let is : behind ≡ behind_run (With patch left) = some_is behind (behind_run (With patch left)) leads.0 in
    let shelf : Shelf patch left RunStep behind ≡ Some (With patch (drop 1 left)) =
    subst (λ (n : NextStep). Shelf patch left RunStep n ≡ Some (With patch (drop 1 left))) (sym is) (run_shelf (length left == 1) patch left some refl) in
    let next : IfSome (slice_get (drop 1 left) 0) (IsRunOf patch) =
    run_sound (length left == 1) patch left refl (subst (λ (n : NextStep). OfNext (with_next (At patch left RunStep) n).drain IsRunOf) is sound) in
    subst (λ (s : Option DrainValue). Written class table (Some (With patch left)) s known known') (sym shelf)
    (under_written class table patch left (drop 1 left) known known' on next
    (known_so (CallsStep patch left RunStep (Some behind)) (ComesTo patch (drop 1 left) (file_name_of patch.path)) (λ x y c. c.comes) known known' calls))

taken_plain : (class : ℕ) (table : Table) (patch : PatchValue) (left : List ShelfRun) (now behind : NextStep) (known known' : Option Image) → 1 ≤ length left → Leads (With patch left) now (Some behind) → WhereKnown known known' (CallsStep patch left now (Some behind))
    → OfNext (with_next (At patch left now) behind).drain IsRunOf → HoldsShelf class table (Some (With patch (left_at now left))) known → Written class table (Some (With patch (left_at now left))) (Shelf patch left now behind) known known'
taken_plain class table patch left CreateLog behind known known' some leads calls sound on = kept_case class table patch left CreateLog behind known known' refl leads calls on
taken_plain class table patch left FirstPiece behind known known' some leads calls sound on = kept_case class table patch left FirstPiece behind known known' refl leads calls on
taken_plain class table patch left (Piece written) behind known known' some leads calls sound on = kept_case class table patch left (Piece written) behind known known' refl leads calls on
taken_plain class table patch left SyncBody behind known known' some leads calls sound on = kept_case class table patch left SyncBody behind known known' refl leads calls on
taken_plain class table patch left OpenGate behind known known' some leads calls sound on = kept_case class table patch left OpenGate behind known known' refl leads calls on
taken_plain class table patch left SyncOpen behind known known' some leads calls sound on = kept_case class table patch left SyncOpen behind known known' refl leads calls on
taken_plain class table patch left RunStep behind known known' some leads calls sound on = run_case class table patch left behind known known' some leads calls sound on
taken_plain class table patch left SyncRuns behind known known' some leads calls sound on = kept_case class table patch left SyncRuns behind known known' refl leads calls on
taken_plain class table patch left CloseGate behind known known' some leads calls sound on = kept_case class table patch left CloseGate behind known known' refl leads calls on
taken_plain class table patch left SyncClose behind known known' some leads calls sound on = absurd cc

taken_drain : (class : ℕ) (table : Table) (drain : Option DrainValue) (name : List ℕ) (now behind : NextStep) (known known' : Option Image) → drain ≢ None → IsNamed drain name → IfSome drain IsBegun → IfSome drain (λ d. Leads d now (Some behind))
    → WhereKnown known known' (λ x y. IfSome drain (λ d. Calls d name now (Some behind) x y)) → OfNext (with_next (on_way drain name now) behind).drain IsRunOf → HoldsShelf class table (drain_at now drain) known
    → Written class table (drain_at now drain) (drain_of (Some (with_next (on_way drain name now) behind))) known known'
taken_drain class table None name now behind known known' some named begun leads calls sound on = absurd (some refl)
taken_drain class table (Some drain) name now behind known known' some named begun leads calls sound on =
    taken_plain class table drain.patch drain.left now behind known known' begun.some leads
    (subst (λ (n : List ℕ). WhereKnown known known' (λ x y. Calls drain n now (Some behind) x y)) named calls) sound on

taken_written : (class : ℕ) (table : Table) (r n : RedoValue) (known known' : Option Image) → IsGoing r → IsGoing n → TakesStep r n known known' → HoldsShelf class table (drain_of (Some r)) known → Written class table (drain_of (Some r)) (drain_of (Some n)) known known'
taken_written class table r n known known' going later takes on =
    subst (λ (m : RedoValue). Written class table (drain_of (Some r)) (drain_of (Some m)) known known') (sym takes.is)
    (taken_drain class table r.drain r.name r.next takes.next known known' going.some going.named going.begun takes.leads
    (known_so (Taken r (Some takes.next)) (λ x y. IfSome r.drain (λ d. Calls d r.name r.next (Some takes.next) x y)) (λ x y t. t.calls) known known' takes.taken)
    (subst (λ (m : RedoValue). OfNext m.drain IsRunOf) takes.is later.sound) on)

-- ---- a step that failed

abbrev TouchesStep : PatchValue → List ShelfRun → NextStep → Image → Image → Type 0
TouchesStep patch left now x y = Touches (With patch left) (file_name_of patch.path) now x y

failed_case : (class : ℕ) (table : Table) (patch : PatchValue) (left : List ShelfRun) (now : NextStep) (known known' : Option Image) → is_run now ≡ false → WhereKnown known known' (TouchesStep patch left now) → HoldsShelf class table (Some (With patch (left_at now left))) known
    → Written class table (Some (With patch (left_at now left))) (Some (With patch (left_at now left))) known known'
failed_case class table patch left now known known' run touches on =
    known_written class table (Some (With patch (left_at now left))) known known' (known_so (TouchesStep patch left now) KeepsRings (λ x y t. fail_keeps patch left now x y run t) known known' touches) on

failed_plain : (class : ℕ) (table : Table) (patch : PatchValue) (left : List ShelfRun) (now : NextStep) (known known' : Option Image) → WhereKnown known known' (TouchesStep patch left now) → IfSome (slice_get left 0) (IsRunOf patch)
    → HoldsShelf class table (Some (With patch (left_at now left))) known → Written class table (Some (With patch (left_at now left))) (Some (With patch (left_at now left))) known known'
failed_plain class table patch left CreateLog known known' touches sound on = failed_case class table patch left CreateLog known known' refl touches on
failed_plain class table patch left FirstPiece known known' touches sound on = failed_case class table patch left FirstPiece known known' refl touches on
failed_plain class table patch left (Piece written) known known' touches sound on = failed_case class table patch left (Piece written) known known' refl touches on
failed_plain class table patch left SyncBody known known' touches sound on = failed_case class table patch left SyncBody known known' refl touches on
failed_plain class table patch left OpenGate known known' touches sound on = failed_case class table patch left OpenGate known known' refl touches on
failed_plain class table patch left SyncOpen known known' touches sound on = failed_case class table patch left SyncOpen known known' refl touches on
failed_plain class table patch left RunStep known known' touches sound on =
    under_written class table patch left left known known' on sound (known_so (TouchesStep patch left RunStep) (ComesTo patch left (file_name_of patch.path)) (λ x y t. t.comes) known known' touches)
failed_plain class table patch left SyncRuns known known' touches sound on = failed_case class table patch left SyncRuns known known' refl touches on
failed_plain class table patch left CloseGate known known' touches sound on = failed_case class table patch left CloseGate known known' refl touches on
failed_plain class table patch left SyncClose known known' touches sound on = failed_case class table patch left SyncClose known known' refl touches on

failed_drain : (class : ℕ) (table : Table) (drain : Option DrainValue) (name : List ℕ) (now : NextStep) (known known' : Option Image) → drain ≢ None → IsNamed drain name → OfNext drain IsRunOf → WhereKnown known known' (λ x y. IfSome drain (λ d. Touches d name now x y))
    → HoldsShelf class table (drain_at now drain) known → Written class table (drain_at now drain) (drain_at now drain) known known'
failed_drain class table None name now known known' some named sound touches on = absurd (some refl)
failed_drain class table (Some drain) name now known known' some named sound touches on =
    failed_plain class table drain.patch drain.left now known known' (subst (λ (n : List ℕ). WhereKnown known known' (λ x y. Touches drain n now x y)) named touches) sound on

failed_written : (class : ℕ) (table : Table) (r n : RedoValue) (known known' : Option Image) → IsGoing r → TakesNone r n known known' → HoldsShelf class table (drain_of (Some r)) known → Written class table (drain_of (Some r)) (drain_of (Some n)) known known'
failed_written class table r n known known' going takes on =
    subst (λ (m : RedoValue). Written class table (drain_of (Some r)) (drain_of (Some m)) known known') (sym takes.is)
    (failed_drain class table r.drain r.name r.next known known' going.some going.named going.sound (known_so (Failed r) (λ x y. IfSome r.drain (λ d. Touches d r.name r.next x y)) (λ x y t. t.touches) known known' takes.failed) on)

-- ---- the last step

last_is : (patch : PatchValue) (left : List ShelfRun) (now : NextStep) → Leads (With patch left) now None → now ≡ SyncClose
last_is patch left CreateLog leads = absurd cc
last_is patch left FirstPiece leads = absurd cc
last_is patch left (Piece written) leads = absurd cc
last_is patch left SyncBody leads = absurd cc
last_is patch left OpenGate leads = absurd cc
last_is patch left SyncOpen leads = absurd cc
last_is patch left RunStep leads = absurd cc
last_is patch left SyncRuns leads = absurd cc
last_is patch left CloseGate leads = absurd cc
last_is patch left SyncClose leads = refl

-- the file stands alone, and the gate is closed
last_plain : (class : ℕ) (table : Table) (patch : PatchValue) (left : List ShelfRun) (now : NextStep) (known known' : Option Image) → Leads (With patch left) now None → WhereKnown known known' (CallsStep patch left now None) → IfSome known (λ x. IsReady (At patch left now) x)
    → HoldsShelf class table (Some (With patch (left_at now left))) known → Written class table (Some (With patch (left_at now left))) None known known' × IfSome known' (λ y. IsClosed (y gate_name))
last_plain class table patch left now known known' leads calls ready on =
    subst (λ (n : NextStep). WhereKnown known known' (CallsStep patch left n None) → IfSome known (λ x. IsReady (At patch left n) x) → HoldsShelf class table (Some (With patch (left_at n left))) known
    → Written class table (Some (With patch (left_at n left))) None known known' × IfSome known' (λ y. IsClosed (y gate_name))) (sym (last_is patch left now leads)) (by known known') calls ready on
  where
    by : (k k' : Option Image) → WhereKnown k k' (λ x y. SameImage x y) → IfSome k (λ x. IsReady (At patch left SyncClose) x) → HoldsShelf class table (Some (With patch [])) k → Written class table (Some (With patch [])) None k k' × IfSome k' (λ y. IsClosed (y gate_name))
    by None None same ready on = (untold_alone class table patch [], tt)
    by None (Some y) same ready on = absurd same
    by (Some x) None same ready on = absurd same
    by (Some x) (Some y) same ready on =
        let moved = rings_written class table (Some (With patch [])) x y (but_none x y same) on in (
          stands_alone class table patch x y moved,
          subst IsClosed (sym (same gate_name)) ready.gate,
        )

last_drain : (class : ℕ) (table : Table) (drain : Option DrainValue) (name : List ℕ) (now : NextStep) (known known' : Option Image) → drain ≢ None → IsNamed drain name → IfSome drain (λ d. Leads d now None)
    → WhereKnown known known' (λ x y. IfSome drain (λ d. Calls d name now None x y)) → IfSome known (λ x. IfSome drain (λ d. Stands d name now x)) → HoldsShelf class table (drain_at now drain) known
    → Written class table (drain_at now drain) None known known' × IfSome known' (λ y. IsClosed (y gate_name))
last_drain class table None name now known known' some named leads calls ready on = absurd (some refl)
last_drain class table (Some drain) name now known known' some named leads calls ready on =
    last_plain class table drain.patch drain.left now known known' leads (subst (λ (n : List ℕ). WhereKnown known known' (λ x y. Calls drain n now None x y)) named calls)
    (subst (λ (n : List ℕ). IfSome known (λ x. Stands drain n now x)) named ready) on

last_written : (class : ℕ) (table : Table) (r : RedoValue) (known known' : Option Image) → IsGoing r → TakesLast r known known' → IfSome known (IsReady r) → HoldsShelf class table (drain_of (Some r)) known
    → Written class table (drain_of (Some r)) None known known' × IfSome known' (λ y. IsClosed (y gate_name))
last_written class table r known known' going takes ready on =
    last_drain class table r.drain r.name r.next known known' going.some going.named takes.leads
    (known_so (Taken r None) (λ x y. IfSome r.drain (λ d. Calls d r.name r.next None x y)) (λ x y t. t.calls) known known' takes.taken) ready on

-- ---- any end of a step

some_written : (class : ℕ) (table : Table) (end : Wrote) (r : RedoValue) (new : Option RedoValue) (known known' : Option Image) → GoesThrough end (Some r) new known known' → IfSome known (IsReady r) → HoldsShelf class table (drain_of (Some r)) known
    → Written class table (drain_of (Some r)) (drain_of new) known known' × HoldsLog (Some new) known'
some_written class table end r None known known' goes ready on = last_written class table r known known' goes.going goes.ends.1 ready on
some_written class table Run r (Some n) known known' goes ready on = (taken_written class table r n known known' goes.going goes.later goes.ends on, goes.ready)
some_written class table Finished r (Some n) known known' goes ready on = absurd goes.ends
some_written class table Nothing r (Some n) known known' goes ready on = absurd goes.ends
some_written class table DiskFault r (Some n) known known' goes ready on = (failed_written class table r n known known' goes.going goes.ends on, goes.ready)

pub log_written : (class : ℕ) (table : Table) (end : Wrote) (old new : Option RedoValue) (known known' : Option Image) → GoesThrough end old new known known' → HoldsLog (Some old) known → HoldsShelf class table (drain_of old) known
    → Written class table (drain_of old) (drain_of new) known known' × HoldsLog (Some new) known'
log_written class table end None new known known' goes log on =
    subst (λ (o : Option RedoValue). Written class table None (drain_of o) known known' × HoldsLog (Some o) known') (sym goes.ends.1)
    (subst (λ (k : Option Image). Written class table None None known k × HoldsLog (Some None) k) (sym goes.ends.2) (same_written class table None known on, log))
log_written class table end (Some r) new known known' goes log on = some_written class table end r new known known' goes log on

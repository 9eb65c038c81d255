-- How many steps a patch has: its cells are no more than the points of its archives, and its runs no more than its cells, and two.
use Rattle.std.proofs.Common.{◌≡◌, ◌≢◌, ◌⊎◌, ℕ, ◌+◌, ◌-◌, ◌<◌, ◌≤◌, ◌==◌, Bool, true, false, cond, List, [], ◌∷◌, ◌++◌, length, take, drop, get_or, slice_get, Option, None, Some, IfSome, inl, inr, refl, sym, ap, subst, arith, All, Ordering, Less, Equal, Greater, nat_cmp, length-append, length-take}
use Rattle.std.specs.List.{flat_map}
use Rattle.std.specs.List.Sorted.{IsStrictlySortedBy}
use Rattle.std.specs.Map.{keys_of}
use Rattle.std.specs.Ordering.{ordering_then}
use Rattle.std.proofs.lemmas.Bool.{eqb-false, eqb-true}
use Rattle.std.proofs.lemmas.Cmp.{ranked}
use Rattle.std.proofs.lemmas.List.{take-take, get_or-take}
use Rattle.std.proofs.lemmas.List.Elements.{All-head, All-tail}
use Rattle.std.proofs.lemmas.List.FromFn.{length-map-range_with_len}
use Rattle.std.proofs.lemmas.Map.Entries.{length-keys_of}
use Rattle.std.proofs.lemmas.Map.Keys.{sorted_head, sorted_tail}
use Rattle.std.proofs.lemmas.Option.{slice_get-get_or}
use Rattle.ring_format.specs.declared.archive.Archive.{Archive}
use Rattle.ring_format.specs.Layout.{LayoutValue, point_count}
use Rattle.ring_format.specs.LayoutFile.{file_size_of}
use Rattle.ring_format.specs.Patch.{IsPlace, PatchValue, place_cmp}
use Rattle.ring_format.proofs.LawfulLayouts.{points_within}
use Rattle.write_shelf.specs.AreRuns.{AreRuns, IsCellRun, places_in}
use Rattle.write_shelf.specs.Runs.{first_runs, last_runs, runs_of}
use Rattle.write_shelf.specs.Shelf.{DrainValue, drain_with}
use Rattle.write_shelf.specs.declared.run.Run.{Run as ShelfRun}
use Rattle.write_shelf.specs.declared.run.Run.TheVariants.{Create, Cells, Head}
use Rattle.write_shelf.proofs.LawLemmas.{are_runs}
use Rattle.redo_log.specs.Count.{StepsFall, left_by, left_of, pieces_of, steps_left}
use Rattle.redo_log.specs.Ends.{TakeEnds, redo_with, rest_of}
use Rattle.redo_log.specs.Steps.{Leads, RedoValue, behind_cells, behind_run, is_run, on_way, piece_cells, with_next}
use Rattle.redo_log.specs.declared.next_step.NextStep.{NextStep}
use Rattle.redo_log.specs.declared.next_step.NextStep.TheVariants.{CreateLog, FirstPiece, Piece, SyncBody, OpenGate, SyncOpen, Run, SyncRuns, CloseGate, SyncClose}
use Rattle.redo_log.specs.declared.redo_step.RedoStep.{RedoStep}
use Rattle.redo_log.specs.declared.redo_step.RedoStep.TheVariants.{Run as Taken, Finished, Nothing, DiskFault}
use Rattle.outside_io.specs.Image.{Image}

-- ---- the cells

blank : Archive
blank = record { step = 0; points = 0 }

-- the number of a place among the points of all archives
abbrev number_of : List Archive → ℕ × ℕ → ℕ
number_of archives place = point_count (take place.0 archives) + place.1

slot_low : (layout : LayoutValue) (place : ℕ × ℕ) → IsPlace layout place → place.1 < (get_or layout.archives place.0 blank).points
slot_low layout place is =
    let ring : slice_get layout.archives place.0 ≡ Some (get_or layout.archives place.0 blank) = slice_get-get_or layout.archives place.0 blank is.0 in
    rw ring at is.1

number_below : (layout : LayoutValue) (place : ℕ × ℕ) → IsPlace layout place → number_of layout.archives place < point_count layout.archives
number_below layout place is = omega (arith, points_within layout.archives place.0 blank is.0, slot_low layout place is)

-- the points up to the end of an archive come before those of a later one
points_before : (archives : List Archive) (a b : ℕ) → a < b → b ≤ length archives → point_count (take a archives) + (get_or archives a blank).points ≤ point_count (take b archives)
points_before archives a b less within =
    let all : a < length (take b archives) = omega (arith, length-take b archives) in
    let points = points_within (take b archives) a blank all in
    let front : point_count (take a (take b archives)) ≡ point_count (take a archives) = ap point_count (take-take a b archives (omega arith)) in
    let same : (get_or (take b archives) a blank).points ≡ (get_or archives a blank).points = ap (λ (archive : Archive). archive.points) (get_or-take b archives a blank less) in
    omega arith

then_less : (o p : Ordering) → ordering_then o p ≡ Less → (o ≡ Less) ⊎ ((o ≡ Equal) × (p ≡ Less))
then_less Less p e = inl refl
then_less Equal p e = inr (refl, e)
then_less Greater p e = absurd cc

number_rises : (layout : LayoutValue) (p q : ℕ × ℕ) → IsPlace layout p → IsPlace layout q → place_cmp p q ≡ Less → number_of layout.archives p < number_of layout.archives q
number_rises layout p q is other less = elim (then_less (nat_cmp p.0 q.0) (nat_cmp p.1 q.1) less) [
  | inl earlier ↦
      let before : p.0 < q.0 = ranked p.0 q.0 Less (sym earlier) in
      let within : q.0 < length layout.archives = other.0 in
      omega (arith, points_before layout.archives p.0 q.0 before (omega arith), slot_low layout p is)
  | inr tied ↦
      let same : p.0 ≡ q.0 = ranked p.0 q.0 Equal (sym tied.0) in
      let before : p.1 < q.1 = ranked p.1 q.1 Less (sym tied.1) in
      let front : point_count (take p.0 layout.archives) ≡ point_count (take q.0 layout.archives) = ap (λ (i : ℕ). point_count (take i layout.archives)) same in
      omega arith
]

-- places that rise are no more than the points
more_below : (layout : LayoutValue) (place : ℕ × ℕ) (places : List (ℕ × ℕ)) → IsStrictlySortedBy place_cmp (place ∷ places) → All (IsPlace layout) (place ∷ places)
    → number_of layout.archives place + length places < point_count layout.archives
more_below layout place [] rise placed = omega (arith, number_below layout place (All-head (IsPlace layout) place [] placed))
more_below layout place (later ∷ places) rise placed =
    let others : All (IsPlace layout) (later ∷ places) = All-tail (IsPlace layout) place (later ∷ places) placed in
    let is = All-head (IsPlace layout) place (later ∷ places) placed in
    let other = All-head (IsPlace layout) later places others in
    let more = more_below layout later places (sorted_tail place_cmp place (later ∷ places) rise) others in
    omega (arith, number_rises layout place later is other (sorted_head place_cmp place (later ∷ places) rise).0)

places_few : (layout : LayoutValue) (places : List (ℕ × ℕ)) → IsStrictlySortedBy place_cmp places → All (IsPlace layout) places → length places ≤ point_count layout.archives
places_few layout [] rise placed = omega arith
places_few layout (place ∷ places) rise placed = omega (arith, more_below layout place places rise placed)

-- ---- the runs

length-run : (run : ShelfRun) → IsCellRun run → 1 ≤ length (places_in run)
length-run (Create size) is = absurd is
length-run (Cells archive slot count) is = omega (arith, length-map-range_with_len {X = ℕ × ℕ} (λ place. (archive, place)) slot count, is.0)
length-run Head is = absurd is

length-runs : (runs : List ShelfRun) → All IsCellRun runs → length runs ≤ length (flat_map places_in runs)
length-runs [] all = omega arith
length-runs (run ∷ runs) all =
    omega (arith, length-append (places_in run) (flat_map places_in runs), length-run run (All-head IsCellRun run runs all), length-runs runs (All-tail IsCellRun run runs all))

at_most_one : (b : Bool) (run : ShelfRun) → length (cond b (run ∷ []) []) ≤ 1
at_most_one true run = omega arith
at_most_one false run = omega arith

length-runs_of : (patch : PatchValue) → length (runs_of patch) ≤ length patch.cells + 2
length-runs_of patch =
    let are : AreRuns patch (runs_of patch) = are_runs patch in
    omega (
      arith,
      ap length are.order,
      length-append (first_runs patch) (are.between ++ last_runs patch),
      length-append are.between (last_runs patch),
      at_most_one patch.fresh (Create (file_size_of patch.layout.archives)),
      at_most_one patch.fresh Head,
      ap length are.each,
      length-keys_of patch.cells,
      length-runs are.between are.sizes,
    )

-- ---- the steps

pub steps_few : (patch : PatchValue) → IsStrictlySortedBy place_cmp (keys_of patch.cells) → All (IsPlace patch.layout) (keys_of patch.cells) → point_count patch.layout.archives ≤ 4000000
    → 7 + (pieces_of (length patch.cells) + length (runs_of patch)) < 5000000
steps_few patch rise placed few =
    omega (arith, length-runs_of patch, length-keys_of patch.cells, places_few patch.layout (keys_of patch.cells) rise placed)

pub put_few : (patch : PatchValue) (name : List ℕ) (runs : List ShelfRun) → 7 + (pieces_of (length patch.cells) + length runs) < 5000000 → steps_left (redo_with patch name runs) < 5000000
put_few patch name [] few = omega arith
put_few patch name (run ∷ runs) few = few

-- ---- each step

abbrev With : PatchValue → List ShelfRun → DrainValue
With patch left = record { patch = patch; left = left }

abbrev Behind : PatchValue → List ShelfRun → List ℕ → NextStep → NextStep → ℕ
Behind patch left name now next = left_of ((with_next (on_way (Some (With patch left)) name now) next).drain) next

some_is : {X : Type 0} (x y : X) → Some x ≡ Some y → x ≡ y
some_is x y e = cc

piece_falls : (b : Bool) (patch : PatchValue) (left : List ShelfRun) (name : List ℕ) (now : NextStep) (from written rest : ℕ) → (written == length patch.cells) ≡ b → is_run now ≡ false → written ≤ length patch.cells
    → (from + piece_cells ≤ written) ⊎ (written ≡ length patch.cells) → rest ≡ length patch.cells - from → Behind patch left name now (cond b SyncBody (Piece written)) < 6 + (pieces_of rest + length left)
piece_falls true patch left name now from written rest all run within more is = omega arith
piece_falls false patch left name now from written rest other run within (inl more) is = omega (arith, more, within, is)
piece_falls false patch left name now from written rest other run within (inr all) is = absurd (eqb-false written (length patch.cells) other all)

run_left : (patch : PatchValue) (left : List ShelfRun) → left_of (drain_with patch (drop 1 left)) Run < 3 + length left
run_left patch [] = omega arith
run_left patch (run ∷ []) = omega arith
run_left patch (run ∷ next ∷ left) = omega arith

run_falls : (b : Bool) (patch : PatchValue) (left : List ShelfRun) (name : List ℕ) → (length left == 1) ≡ b → Behind patch left name Run (cond b SyncRuns Run) < 3 + length left
run_falls true patch left name last = omega (arith, eqb-true (length left) 1 last)
run_falls false patch left name more = run_left patch left

plain_falls : (patch : PatchValue) (left : List ShelfRun) (name : List ℕ) (now next : NextStep) → Leads (With patch left) now (Some next) → Behind patch left name now next < left_by (With patch left) now
plain_falls patch left name CreateLog next leads = subst (λ (n : NextStep). Behind patch left name CreateLog n < left_by (With patch left) CreateLog) (sym (some_is next FirstPiece leads.0)) (omega arith)
plain_falls patch left name FirstPiece next leads =
    subst (λ (n : NextStep). Behind patch left name FirstPiece n < left_by (With patch left) FirstPiece) (sym (some_is next (behind_cells patch leads.0.written) leads.0.is))
    (piece_falls (leads.0.written == length patch.cells) patch left name FirstPiece 0 leads.0.written (length patch.cells) refl refl leads.0.within leads.0.more (omega arith))
plain_falls patch left name (Piece from) next leads =
    subst (λ (n : NextStep). Behind patch left name (Piece from) n < left_by (With patch left) (Piece from)) (sym (some_is next (behind_cells patch leads.0.written) leads.0.is))
    (piece_falls (leads.0.written == length patch.cells) patch left name (Piece from) from leads.0.written (length patch.cells - from) refl refl leads.0.within leads.0.more refl)
plain_falls patch left name SyncBody next leads = subst (λ (n : NextStep). Behind patch left name SyncBody n < left_by (With patch left) SyncBody) (sym (some_is next OpenGate leads.0)) (omega arith)
plain_falls patch left name OpenGate next leads = subst (λ (n : NextStep). Behind patch left name OpenGate n < left_by (With patch left) OpenGate) (sym (some_is next SyncOpen leads.0)) (omega arith)
plain_falls patch left name SyncOpen next leads = subst (λ (n : NextStep). Behind patch left name SyncOpen n < left_by (With patch left) SyncOpen) (sym (some_is next Run leads.0)) (omega arith)
plain_falls patch left name Run next leads =
    subst (λ (n : NextStep). Behind patch left name Run n < left_by (With patch left) Run) (sym (some_is next (behind_run (With patch left)) leads.0)) (run_falls (length left == 1) patch left name refl)
plain_falls patch left name SyncRuns next leads = subst (λ (n : NextStep). Behind patch left name SyncRuns n < left_by (With patch left) SyncRuns) (sym (some_is next CloseGate leads.0)) (omega arith)
plain_falls patch left name CloseGate next leads = subst (λ (n : NextStep). Behind patch left name CloseGate n < left_by (With patch left) CloseGate) (sym (some_is next SyncClose leads.0)) (omega arith)
plain_falls patch left name SyncClose next leads = absurd cc

step_falls : (drain : Option DrainValue) (name : List ℕ) (now next : NextStep) → drain ≢ None → IfSome drain (λ d. Leads d now (Some next)) → left_of ((with_next (on_way drain name now) next).drain) next < left_of drain now
step_falls None name now next some leads = absurd (some refl)
step_falls (Some drain) name now next some leads = plain_falls drain.patch drain.left name now next leads

one_left : (drain : DrainValue) (now : NextStep) → 1 ≤ left_by drain now
one_left drain CreateLog = omega arith
one_left drain FirstPiece = omega arith
one_left drain (Piece written) = omega arith
one_left drain SyncBody = omega arith
one_left drain OpenGate = omega arith
one_left drain SyncOpen = omega arith
one_left drain Run = omega arith
one_left drain SyncRuns = omega arith
one_left drain CloseGate = omega arith
one_left drain SyncClose = omega arith

some_left : (drain : Option DrainValue) (now : NextStep) → drain ≢ None → 1 ≤ left_of drain now
some_left None now some = absurd (some refl)
some_left (Some drain) now some = one_left drain now

pub take_falls : (end : RedoStep) (old new : RedoValue) (a b : Option Image) → old.drain ≢ None → TakeEnds end old new a b → StepsFall end (steps_left (Some old)) (steps_left (rest_of end new))
take_falls Taken old new a b some ends = subst (λ (r : RedoValue). left_of r.drain r.next < left_of old.drain old.next) (sym ends.is) (step_falls old.drain old.name old.next ends.next some ends.leads)
take_falls Finished old new a b some ends = (some_left old.drain old.next some, refl)
take_falls Nothing old new a b some ends = absurd ends
take_falls DiskFault old new a b some ends = ap (λ (r : RedoValue). left_of r.drain r.next) ends.is

-- the same of a redo that is not empty
pub redo_falls : (end : RedoStep) (held behind : Option RedoValue) (old new : RedoValue) → held ≡ Some old → behind ≡ rest_of end new → StepsFall end (steps_left (Some old)) (steps_left (rest_of end new)) → StepsFall end (steps_left held) (steps_left behind)
redo_falls end held behind old new is left falls =
    subst (λ (o : Option RedoValue). StepsFall end (steps_left o) (steps_left behind)) (sym is) (subst (λ (o : Option RedoValue). StepsFall end (steps_left (Some old)) (steps_left o)) (sym left) falls)

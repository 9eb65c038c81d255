-- The next run of a shelf over the file of a name.
use Rattle.std.proofs.Common.{◌≡◌, ◌≢◌, ◌∙◌, ℕ, ◌*◌, Bool, true, false, List, [], ◌∷◌, ◌++◌, length, take, drop, Option, None, Some, IfSome, IsSomeAnd, slice_get, refl, sym, ap, subst, arith}
use Rattle.std.specs.Prelude.{⊤, option_map, replicate, Result, Ok, Err, OnErr, IsErr}
use Rattle.outside_io.specs.Crash.{Crashes}
use Rattle.outside_io.specs.Image.{Image, ChangesOnly, Creates, IsTorn, Tears, WhereKnown, Writes, put_over}
use Rattle.ring_format.specs.Layout.{layout_fault}
use Rattle.ring_format.specs.Patch.{PatchValue}
use Rattle.ring_format.specs.Cell.{cell_size}
use Rattle.ring_archive.specs.Ring.{IsRingFile, OnFile, ReadsAs, Rings, UnderPatch, cell_offset}
use Rattle.ring_archive.proofs.AlikeLemmas.{aside_alike}
use Rattle.write_shelf.specs.Runs.{runs_of}
use Rattle.write_shelf.specs.Shelf.{AreLaid, ComesInTurn, DrainValue, IsBegun, IsFilled, IsRunOf, OfNext, StandsAt, drain_with, marked, next_run, run_bytes}
use Rattle.write_shelf.specs.declared.run.Run.{Run}
use Rattle.write_shelf.specs.declared.run.Run.TheVariants.{Create, Cells, Head}
use Rattle.write_shelf.proofs.BytesLemmas.{length-cells_bytes}
use Rattle.ring_writer.specs.PartWritten.{Awaits, AwaitsNext, ComesTo, CrashesNext, FailsNext, IsPartWritten, PutsRun, RunTorn, RunWritten, StaysRing, TearsRun, WritesNext}
use Rattle.ring_writer.proofs.KnownLemmas.{known_more, known_then}
use Rattle.ring_writer.proofs.PartLemmas.{FollowsOn, cells_agree, cells_failed, cells_written, file_made, head_failed, head_still, head_written, not_both, reads_on, ring_file_begun}

-- what follows from an error, where there is one
pub on_err_then : {T E : Type 0} {P : Type 0} (r : Result T E) → OnErr r P → IsErr r → P
on_err_then (Ok x) p failed = absurd cc
on_err_then (Err e) p failed = p

-- ---- what is awaited

pub awaits_held : (patch : PatchValue) (left : List Run) (held : Option (List ℕ)) → IsSomeAnd held (IsPartWritten patch left) → Awaits patch left held
awaits_held patch [] held part = part
awaits_held patch (Create size ∷ left) held part = tt
awaits_held patch (Cells archive slot count ∷ left) held part = part
awaits_held patch (Head ∷ left) held part = part

ring_held : (patch : PatchValue) (held : Option (List ℕ)) → patch.fresh ≡ false → IsSomeAnd held (IsRingFile patch.layout) → IsSomeAnd held (IsPartWritten patch (runs_of patch))
ring_held patch None over whole = absurd whole
ring_held patch (Some file) over whole = ring_file_begun patch file over whole

pub ring_awaits : (patch : PatchValue) (held : Option (List ℕ)) → patch.fresh ≡ false → IsSomeAnd held (IsRingFile patch.layout) → Awaits patch (runs_of patch) held
ring_awaits patch held over whole = awaits_held patch (runs_of patch) held (ring_held patch held over whole)

pub new_awaits : (patch : PatchValue) (held : Option (List ℕ)) → patch.fresh ≡ true → Awaits patch (runs_of patch) held
new_awaits patch held fresh = rw fresh tt

pub drain_awaits : (patch : PatchValue) (left : List Run) (held : Option (List ℕ)) → Awaits patch left held → AwaitsNext (drain_with patch left) held
drain_awaits patch [] held awaits = tt
drain_awaits patch (run ∷ left) held awaits = awaits

-- ---- the file of a name, before and after a call

-- the file was there, is there, and this holds of both
abbrev Both : Option (List ℕ) → Option (List ℕ) → (List ℕ → List ℕ → Type 0) → Type 0
Both old new R = IsSomeAnd old (λ o. IsSomeAnd new (R o))

both_of : (P : List ℕ → Type 0) (T R : List ℕ → List ℕ → Type 0) → ((o n : List ℕ) → P o → T o n → R o n) → (old new : Option (List ℕ)) → IsSomeAnd old P → IfSome old (λ o. IsSomeAnd new (T o)) → Both old new R
both_of P T R more None new p t = absurd p
both_of P T R more (Some o) None p t = absurd t
both_of P T R more (Some o) (Some n) p t = more o n p t

both_put : (P : List ℕ → Type 0) (R : List ℕ → List ℕ → Type 0) (at : ℕ) (piece : List ℕ) → ((o n : List ℕ) → P o → n ≡ put_over o at piece → R o n) → (old new : Option (List ℕ)) → IsSomeAnd old P
    → new ≡ option_map (λ file. put_over file at piece) old → Both old new R
both_put P R at piece more None new p is = absurd p
both_put P R at piece more (Some o) new p is = rw is (more o (put_over o at piece) p refl)

second : (R : List ℕ → List ℕ → Type 0) (Q : List ℕ → Type 0) → ((o n : List ℕ) → R o n → Q n) → (old new : Option (List ℕ)) → Both old new R → IsSomeAnd new Q
second R Q more None new r = absurd r
second R Q more (Some o) None r = absurd r
second R Q more (Some o) (Some n) r = more o n r

moved : (P : List ℕ → Type 0) (R : List ℕ → List ℕ → Type 0) → ((o n : List ℕ) → R o n → P o → P n) → (old new : Option (List ℕ)) → Both old new R → IsSomeAnd old P → IsSomeAnd new P
moved P R more None new r p = absurd p
moved P R more (Some o) None r p = absurd r
moved P R more (Some o) (Some n) r p = more o n r p

under_moved : (fresh : Bool) (before after : Image) (name : List ℕ) (P : List ℕ → Type 0) → (IsSomeAnd (before name) P → IsSomeAnd (after name) P) → UnderPatch fresh (Some before) name P → UnderPatch fresh (Some after) name P
under_moved true before after name P more p = p
under_moved false before after name P more p = more p

under_fresh : (fresh : Bool) (before after : Image) (name : List ℕ) (P : List ℕ → Type 0) → fresh ≡ true → UnderPatch fresh (Some before) name P → UnderPatch fresh (Some after) name P
under_fresh true before after name P is p = p
under_fresh false before after name P is p = absurd cc

comes_to : (patch : PatchValue) (left : List Run) (name : List ℕ) (before after : Image) → layout_fault patch.layout.archives patch.layout.factor ≡ None → ChangesOnly before after name
    → Both (before name) (after name) (FollowsOn patch left) → ComesTo patch left name before after
comes_to patch left name before after lawful others both = record {
  others = others;
  reads = λ rings. under_moved patch.fresh before after name (λ file. ReadsAs patch file rings)
      (moved (λ file. ReadsAs patch file rings) (FollowsOn patch left) (λ o n follows reads. reads_on patch left o n rings lawful follows reads) (before name) (after name) both);
  far = awaits_held patch left (after name) (second (FollowsOn patch left) (IsPartWritten patch left) (λ o n follows. follows.part) (before name) (after name) both);
}

-- ---- a call for the first of these runs

-- what a shelf tells of it
pub record IsFirst (drain : DrainValue) (left : List Run) : Type 0 where
  pub is : drain.left ≡ left
  pub sound : IfSome (slice_get left 0) (IsRunOf drain.patch)
  pub turn : IfSome (slice_get left 0) (ComesInTurn drain)
  pub begun : IsBegun drain
  pub lawful : layout_fault drain.patch.layout.archives drain.patch.layout.factor ≡ None

-- it is none that creates the file
abbrev pub IsNoCreation : Run → Type 0
IsNoCreation (Create size) = ⊥
IsNoCreation (Cells archive slot count) = ⊤
IsNoCreation Head = ⊤

some_left : (drain : DrainValue) → IsFirst drain [] → ⊥
some_left drain first = absurd (omega (arith, ap length first.is, first.begun.some))

write_fails : (drain : DrainValue) (left : List Run) (name : List ℕ) (n at : ℕ) (bytes : List ℕ) (before after : Image) → IsFirst drain left → IfSome (slice_get left 0) IsNoCreation
    → IfSome (slice_get left 0) (IsFilled n bytes drain.patch) → IfSome (slice_get left 0) (StandsAt at drain.patch) → Awaits drain.patch left (before name)
    → Tears before after name at (length (take n bytes)) → ComesTo drain.patch left name before after
write_fails drain [] name n at bytes before after first other filled stands awaits tears = absurd (some_left drain first)
write_fails drain (Create size ∷ left) name n at bytes before after first other filled stands awaits tears = absurd other
write_fails drain (Cells archive slot count ∷ left) name n at bytes before after first other filled stands awaits tears =
    let long : length (take n bytes) ≡ cell_size * count = ap length filled.front ∙ length-cells_bytes drain.patch.cells archive slot count first.sound.laid in
    comes_to drain.patch (Cells archive slot count ∷ left) name before after first.lawful tears.1
    (both_of (IsPartWritten drain.patch (Cells archive slot count ∷ left)) (λ o m. IsTorn o m at (length (take n bytes))) (FollowsOn drain.patch (Cells archive slot count ∷ left))
    (λ o m part torn. cells_failed drain.patch archive slot count (length (take n bytes)) left o m first.sound long part (rw stands.place at torn)) (before name) (after name) awaits tears.0)
write_fails drain (Head ∷ left) name n at bytes before after first other filled stands awaits tears =
    comes_to drain.patch (Head ∷ left) name before after first.lawful tears.1
    (both_of (IsPartWritten drain.patch (Head ∷ left)) (λ o m. IsTorn o m at (length (take n bytes))) (FollowsOn drain.patch (Head ∷ left))
    (λ o m part torn. head_failed drain.patch (length (take n bytes)) left o m first.sound (ap length filled.front) part (rw stands.place at torn)) (before name) (after name) awaits tears.0)

write_done : (drain : DrainValue) (left : List Run) (name : List ℕ) (n at : ℕ) (bytes : List ℕ) (before after : Image) → IsFirst drain left → IfSome (slice_get left 0) IsNoCreation
    → IfSome (slice_get left 0) (IsFilled n bytes drain.patch) → IfSome (slice_get left 0) (StandsAt at drain.patch) → Awaits drain.patch left (before name)
    → Writes before after name at (take n bytes) → ComesTo drain.patch (drop 1 left) name before after
write_done drain [] name n at bytes before after first other filled stands awaits writes = absurd (some_left drain first)
write_done drain (Create size ∷ left) name n at bytes before after first other filled stands awaits writes = absurd other
write_done drain (Cells archive slot count ∷ left) name n at bytes before after first other filled stands awaits writes =
    let runs : runs_of drain.patch ≡ first.begun.written ++ Cells archive slot count ∷ left = first.begun.runs ∙ ap (λ (xs : List Run). first.begun.written ++ xs) first.is in
    comes_to drain.patch left name before after first.lawful writes.1
    (both_put (IsPartWritten drain.patch (Cells archive slot count ∷ left)) (FollowsOn drain.patch left) at (take n bytes)
    (λ o m part put. cells_written drain.patch archive slot count first.begun.written left o m (take n bytes) first.sound filled.read runs part filled.front (rw stands.place at put)) (before name) (after name) awaits writes.0)
write_done drain (Head ∷ left) name n at bytes before after first other filled stands awaits writes =
    let alone : Head ∷ left ≡ Head ∷ [] = sym first.is ∙ first.turn in
    let none : left ≡ [] = ap (drop 1) alone in
    let part_of : IsSomeAnd (before name) (IsPartWritten drain.patch (Head ∷ [])) = subst (λ (xs : List Run). IsSomeAnd (before name) (IsPartWritten drain.patch xs)) alone awaits in
    subst (λ (xs : List Run). ComesTo drain.patch xs name before after) (sym none)
    (comes_to drain.patch [] name before after first.lawful writes.1
    (both_put (IsPartWritten drain.patch (Head ∷ [])) (FollowsOn drain.patch []) at (take n bytes)
    (λ o m part put. head_written drain.patch o m (take n bytes) part filled.front (rw stands.place at put)) (before name) (after name) part_of writes.0))

-- ---- the creation

create_done : (drain : DrainValue) (left : List Run) (size : ℕ) (name : List ℕ) (before after : Image) → IsFirst drain left → slice_get left 0 ≡ Some (Create size)
    → Creates before after name size → ComesTo drain.patch (drop 1 left) name before after
create_done drain [] size name before after first e creates = absurd cc
create_done drain (Cells archive slot count ∷ left) size name before after first e creates = absurd cc
create_done drain (Head ∷ left) size name before after first e creates = absurd cc
create_done drain (Create length ∷ left) size name before after first e creates =
    let same : size ≡ length = cc in
    let part : IsSomeAnd (after name) (IsPartWritten drain.patch left) =
    rw creates.0 (file_made drain.patch length left (replicate size 0) first.sound.0 first.sound.1 (sym first.is ∙ first.turn) (ap (λ (m : ℕ). replicate m 0) same)) in
    record {
      others = creates.1;
      reads = λ rings. under_fresh drain.patch.fresh before after name (λ file. ReadsAs drain.patch file rings) first.sound.0;
      far = awaits_held drain.patch left (after name) part;
    }

create_fails : (drain : DrainValue) (left : List Run) (size : ℕ) (name : List ℕ) (before after : Image) → IsFirst drain left → slice_get left 0 ≡ Some (Create size)
    → ChangesOnly before after name → ComesTo drain.patch left name before after
create_fails drain [] size name before after first e others = absurd cc
create_fails drain (Cells archive slot count ∷ left) size name before after first e others = absurd cc
create_fails drain (Head ∷ left) size name before after first e others = absurd cc
create_fails drain (Create length ∷ left) size name before after first e others = record {
  others = others;
  reads = λ rings. under_fresh drain.patch.fresh before after name (λ file. ReadsAs drain.patch file rings) first.sound.0;
  far = tt;
}

-- ---- over a shelf

-- what a shelf tells of its next run
pub record TellsNext (shelf : Option DrainValue) (run : Run) : Type 0 where
  pub some : shelf ≢ None
  pub is : Some run ≡ next_run shelf
  pub sound : OfNext shelf IsRunOf
  pub turn : IfSome shelf (λ drain. ComesInTurn drain run)
  pub begun : IfSome shelf IsBegun
  pub lawful : IfSome shelf (λ drain. layout_fault drain.patch.layout.archives drain.patch.layout.factor ≡ None)

in_turn : (drain : DrainValue) (run : Run) (found : Option Run) → Some run ≡ found → ComesInTurn drain run → IfSome found (ComesInTurn drain)
in_turn drain run None e turn = tt
in_turn drain run (Some other) e turn =
    let same : run ≡ other = cc in
    subst (ComesInTurn drain) same turn

first_of : (drain : DrainValue) (run : Run) → TellsNext (Some drain) run → IsFirst drain drain.left
first_of drain run tells = record {
  is = refl;
  sound = tells.sound;
  turn = in_turn drain run (slice_get drain.left 0) tells.is tells.turn;
  begun = tells.begun;
  lawful = tells.lawful;
}

none_created : (run : Run) (found : Option Run) → Some run ≡ found → IsNoCreation run → IfSome found IsNoCreation
none_created run None e other = tt
none_created run (Some next) e other =
    let same : run ≡ next = cc in
    subst IsNoCreation same other

-- ---- the run that was written, and no other

puts : (patch : PatchValue) (run : Run) (n at : ℕ) (bytes name : List ℕ) (x y : Image) → IsNoCreation run → IsFilled n bytes patch run → StandsAt at patch run
    → Writes x y name at (take n bytes) → PutsRun patch name x y run
puts patch (Create size) n at bytes name x y other filled stands writes = absurd other
puts patch (Cells archive slot count) n at bytes name x y other filled stands writes =
    subst (λ (m : ℕ). Writes x y name m (run_bytes patch (Cells archive slot count))) stands.place (subst (Writes x y name at) filled.front writes)
puts patch Head n at bytes name x y other filled stands writes =
    subst (λ (m : ℕ). Writes x y name m (run_bytes patch Head)) stands.place (subst (Writes x y name at) filled.front writes)

tears : (patch : PatchValue) (run : Run) (n at : ℕ) (bytes name : List ℕ) (x y : Image) → IsNoCreation run → IsFilled n bytes patch run → StandsAt at patch run
    → Tears x y name at (length (take n bytes)) → TearsRun patch name x y run
tears patch (Create size) n at bytes name x y other filled stands torn = absurd other
tears patch (Cells archive slot count) n at bytes name x y other filled stands torn =
    subst (λ (m : ℕ). Tears x y name m (length (run_bytes patch (Cells archive slot count)))) stands.place (subst (Tears x y name at) (ap length filled.front) torn)
tears patch Head n at bytes name x y other filled stands torn =
    subst (λ (m : ℕ). Tears x y name m (length (run_bytes patch Head))) stands.place (subst (Tears x y name at) (ap length filled.front) torn)

first_put : (patch : PatchValue) (found : Option Run) (run : Run) (n at : ℕ) (bytes name : List ℕ) (x y : Image) → Some run ≡ found → IfSome found IsNoCreation → IfSome found (IsFilled n bytes patch)
    → IfSome found (StandsAt at patch) → Writes x y name at (take n bytes) → IsSomeAnd found (PutsRun patch name x y)
first_put patch None run n at bytes name x y e other filled stands writes = absurd cc
first_put patch (Some next) run n at bytes name x y e other filled stands writes = puts patch next n at bytes name x y other filled stands writes

first_torn : (patch : PatchValue) (found : Option Run) (run : Run) (n at : ℕ) (bytes name : List ℕ) (x y : Image) → Some run ≡ found → IfSome found IsNoCreation → IfSome found (IsFilled n bytes patch)
    → IfSome found (StandsAt at patch) → Tears x y name at (length (take n bytes)) → IsSomeAnd found (TearsRun patch name x y)
first_torn patch None run n at bytes name x y e other filled stands torn = absurd cc
first_torn patch (Some next) run n at bytes name x y e other filled stands torn = tears patch next n at bytes name x y other filled stands torn

-- ---- a call for the next run

pub next_written : (shelf : Option DrainValue) (run : Run) (n at : ℕ) (bytes name : List ℕ) (a b : Option Image) → TellsNext shelf run → IsNoCreation run → OfNext shelf (IsFilled n bytes) → OfNext shelf (StandsAt at)
    → IfSome a (λ image. AwaitsNext shelf (image name)) → WhereKnown a b (λ x y. Writes x y name at (take n bytes)) → WhereKnown a b (WritesNext shelf name)
next_written None run n at bytes name a b tells other filled stands awaits writes = absurd (tells.some refl)
next_written (Some drain) run n at bytes name a b tells other filled stands awaits writes =
    let no_creation = none_created run (slice_get drain.left 0) tells.is other in
    known_more (λ image. Awaits drain.patch drain.left (image name)) (λ x y. Writes x y name at (take n bytes)) (RunWritten drain name)
    (λ x y here written. record {
      exact = first_put drain.patch (slice_get drain.left 0) run n at bytes name x y tells.is no_creation filled stands written;
      comes = write_done drain drain.left name n at bytes x y (first_of drain run tells) no_creation filled stands here written;
    }) a b awaits writes

pub next_failed : (shelf : Option DrainValue) (run : Run) (n at : ℕ) (bytes name : List ℕ) (a b : Option Image) → TellsNext shelf run → IsNoCreation run → OfNext shelf (IsFilled n bytes) → OfNext shelf (StandsAt at)
    → IfSome a (λ image. AwaitsNext shelf (image name)) → WhereKnown a b (λ x y. Tears x y name at (length (take n bytes))) → WhereKnown a b (FailsNext shelf name)
next_failed None run n at bytes name a b tells other filled stands awaits tears = absurd (tells.some refl)
next_failed (Some drain) run n at bytes name a b tells other filled stands awaits tears =
    let no_creation = none_created run (slice_get drain.left 0) tells.is other in
    known_more (λ image. Awaits drain.patch drain.left (image name)) (λ x y. Tears x y name at (length (take n bytes))) (RunTorn drain name)
    (λ x y here torn. record {
      exact = first_torn drain.patch (slice_get drain.left 0) run n at bytes name x y tells.is no_creation filled stands torn;
      comes = write_fails drain drain.left name n at bytes x y (first_of drain run tells) no_creation filled stands here torn;
    }) a b awaits tears

pub next_created : (shelf : Option DrainValue) (size : ℕ) (name : List ℕ) (a b : Option Image) → TellsNext shelf (Create size)
    → IfSome a (λ image. AwaitsNext shelf (image name)) → WhereKnown a b (λ x y. Creates x y name size) → WhereKnown a b (WritesNext shelf name)
next_created None size name a b tells awaits creates = absurd (tells.some refl)
next_created (Some drain) size name a b tells awaits creates =
    known_more (λ image. Awaits drain.patch drain.left (image name)) (λ x y. Creates x y name size) (RunWritten drain name)
    (λ x y here made. record {
      exact = subst (λ (found : Option Run). IsSomeAnd found (PutsRun drain.patch name x y)) tells.is made;
      comes = create_done drain drain.left size name x y (first_of drain (Create size) tells) (sym tells.is) made;
    }) a b awaits creates

pub next_not_created : (shelf : Option DrainValue) (size : ℕ) (name : List ℕ) (a b : Option Image) → TellsNext shelf (Create size)
    → IfSome a (λ image. AwaitsNext shelf (image name)) → WhereKnown a b (λ x y. ChangesOnly x y name) → WhereKnown a b (FailsNext shelf name)
next_not_created None size name a b tells awaits only = absurd (tells.some refl)
next_not_created (Some drain) size name a b tells awaits only =
    known_more (λ image. Awaits drain.patch drain.left (image name)) (λ x y. ChangesOnly x y name) (RunTorn drain name)
    (λ x y here others. record {
      exact = subst (λ (found : Option Run). IsSomeAnd found (TearsRun drain.patch name x y)) tells.is others;
      comes = create_fails drain drain.left size name x y (first_of drain (Create size) tells) (sym tells.is) others;
    }) a b awaits only

-- ---- what a crash may leave of a call for the next run

crashes_by : {D : Type 0} (may_leave : D → Image → Type 0) (moment : D → ℕ) (left_since : D → ℕ → Image → Type 0) (P Q : Image → Image → Type 0) (old new : D) → ((x y : Image) → P x y → Q x y)
    → Crashes may_leave moment left_since P old new → Crashes may_leave moment left_since Q old new
crashes_by may_leave moment left_since P Q old new more crash = record {
  follows = λ left now. let step = crash.follows left now in (step.0, step.1, more step.0 left step.2);
  time = crash.time;
}

-- of a ring file, with any bytes where those of a run of cells stand
abbrev Stays : PatchValue → List ℕ → List ℕ → Type 0
Stays patch old new = IsRingFile patch.layout new × ((rings : Rings) → ReadsAs patch old rings → ReadsAs patch new rings)

cells_stay : (patch : PatchValue) (archive slot count : ℕ) (old new : List ℕ) → layout_fault patch.layout.archives patch.layout.factor ≡ None → AreLaid patch archive slot count → IsRingFile patch.layout old
    → IsTorn old new (cell_offset 2 patch.layout.archives (archive, slot)) (length (run_bytes patch (Cells archive slot count))) → Stays patch old new
cells_stay patch archive slot count old new lawful laid whole torn =
    let long : length (run_bytes patch (Cells archive slot count)) ≡ cell_size * count = length-cells_bytes patch.cells archive slot count laid.laid in (
      head_still patch archive slot count (length (run_bytes patch (Cells archive slot count))) old new laid torn whole,
      λ rings reads. aside_alike patch old new rings lawful (cells_agree patch archive slot count (length (run_bytes patch (Cells archive slot count))) old new laid long torn whole) reads,
    )

stays_ring : (drain : DrainValue) (left : List Run) (name : List ℕ) (x y : Image) → IsFirst drain left → IsSomeAnd (slice_get left 0) (TearsRun drain.patch name x y) → drain.patch.fresh ≡ false
    → IsSomeAnd (x name) (IsRingFile drain.patch.layout) → StaysRing drain.patch name x y
stays_ring drain [] name x y first torn over whole = absurd (some_left drain first)
stays_ring drain (Create size ∷ left) name x y first torn over whole = absurd (not_both first.sound.0 over)
stays_ring drain (Cells archive slot count ∷ left) name x y first torn over whole =
    let both = both_of (IsRingFile drain.patch.layout) (λ o n. IsTorn o n (cell_offset 2 drain.patch.layout.archives (archive, slot)) (length (run_bytes drain.patch (Cells archive slot count)))) (Stays drain.patch)
    (λ o n p t. cells_stay drain.patch archive slot count o n first.lawful first.sound p t) (x name) (y name) whole torn.0 in
    record {
      whole = second (Stays drain.patch) (IsRingFile drain.patch.layout) (λ o n s. s.0) (x name) (y name) both;
      reads = λ rings. moved (λ file. ReadsAs drain.patch file rings) (Stays drain.patch) (λ o n s. s.1 rings) (x name) (y name) both;
    }
stays_ring drain (Head ∷ left) name x y first torn over whole = absurd (not_both first.sound over)

pub next_crashes : {D : Type 0} (may_leave : D → Image → Type 0) (moment : D → ℕ) (left_since : D → ℕ → Image → Type 0) (shelf : Option DrainValue) (run : Run) (n at : ℕ) (bytes name : List ℕ) (old new : D) → TellsNext shelf run → IsNoCreation run
    → OfNext shelf (IsFilled n bytes) → OfNext shelf (StandsAt at) → Crashes may_leave moment left_since (λ x y. Tears x y name at (length (take n bytes))) old new → Crashes may_leave moment left_since (CrashesNext shelf name) old new
next_crashes may_leave moment left_since None run n at bytes name old new tells other filled stands crash = absurd (tells.some refl)
next_crashes may_leave moment left_since (Some drain) run n at bytes name old new tells other filled stands crash =
    crashes_by may_leave moment left_since (λ x y. Tears x y name at (length (take n bytes))) (CrashesNext (Some drain) name) old new
    (λ x y t.
    let exact = first_torn drain.patch (slice_get drain.left 0) run n at bytes name x y tells.is (none_created run (slice_get drain.left 0) tells.is other) filled stands t in
    record { exact = exact; stays = stays_ring drain drain.left name x y (first_of drain run tells) exact }) crash

pub create_crashes : {D : Type 0} (may_leave : D → Image → Type 0) (moment : D → ℕ) (left_since : D → ℕ → Image → Type 0) (shelf : Option DrainValue) (size : ℕ) (name : List ℕ) (old new : D) → TellsNext shelf (Create size)
    → Crashes may_leave moment left_since (λ x y. ChangesOnly x y name) old new → Crashes may_leave moment left_since (CrashesNext shelf name) old new
create_crashes may_leave moment left_since None size name old new tells crash = absurd (tells.some refl)
create_crashes may_leave moment left_since (Some drain) size name old new tells crash =
    crashes_by may_leave moment left_since (λ x y. ChangesOnly x y name) (CrashesNext (Some drain) name) old new
    (λ x y only.
    let exact = subst (λ (found : Option Run). IsSomeAnd found (TearsRun drain.patch name x y)) tells.is only in
    record { exact = exact; stays = stays_ring drain drain.left name x y (first_of drain (Create size) tells) exact }) crash

-- ---- over several runs

-- where a run was written the next one is awaited
pub written_awaits : (shelf : Option DrainValue) (name : List ℕ) (a b : Option Image) → WhereKnown a b (WritesNext shelf name) → IfSome b (λ image. AwaitsNext (marked shelf) (image name))
written_awaits None name a b written = known_then (λ image. AwaitsNext (marked None) (image name)) (WritesNext None name) (λ x y _. tt) a b written
written_awaits (Some drain) name a b written =
    known_then (λ image. AwaitsNext (marked (Some drain)) (image name)) (WritesNext (Some drain) name)
    (λ x y comes. drain_awaits drain.patch (drop 1 drain.left) (y name) comes.comes.far) a b written

-- where it was not, it is awaited still
pub failed_awaits : (shelf : Option DrainValue) (name : List ℕ) (a b : Option Image) → WhereKnown a b (FailsNext shelf name) → IfSome b (λ image. AwaitsNext shelf (image name))
failed_awaits None name a b failed = known_then (λ image. AwaitsNext None (image name)) (FailsNext None name) (λ x y _. tt) a b failed
failed_awaits (Some drain) name a b failed =
    known_then (λ image. AwaitsNext (Some drain) (image name)) (FailsNext (Some drain) name) (λ x y comes. comes.comes.far) a b failed

-- what is awaited of the file of a patch that was just put on a shelf
begins_by : (fresh : Bool) (patch : PatchValue) (held : Option (List ℕ)) → patch.fresh ≡ fresh → (fresh ≡ false → IsSomeAnd held (IsRingFile patch.layout)) → Awaits patch (runs_of patch) held
begins_by true patch held is whole = new_awaits patch held is
begins_by false patch held is whole = ring_awaits patch held is (whole refl)

pub put_awaits : (patch : PatchValue) (name : List ℕ) (known : Option Image) → (patch.fresh ≡ false → OnFile known name (IsRingFile patch.layout)) → IfSome known (λ image. AwaitsNext (drain_with patch (runs_of patch)) (image name))
put_awaits patch name None whole = tt
put_awaits patch name (Some image) whole = drain_awaits patch (runs_of patch) (image name) (begins_by patch.fresh patch (image name) refl whole)

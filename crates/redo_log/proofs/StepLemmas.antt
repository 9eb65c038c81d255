-- What a call of the disk makes of what a redo needs of it.
use Rattle.std.proofs.Common.{◌≡◌, ◌≢◌, ◌∙◌, ◌⊎◌, ℕ, ◌+◌, ◌*◌, ◌≤◌, Bool, true, false, cond, ◌&&◌, ◌==◌, List, [], ◌∷◌, ◌++◌, length, take, drop, map, get_or, slice_get, All, Option, None, Some, IfSome, IsSomeAnd, Result, Ok, Err, inl, inr, ⊎_elim, refl, sym, ap, subst, arith, append_assoc, length-append, length-take, take_all}
use Rattle.std.specs.Prelude.{⊤, option_map, codes, OnOk, OnErr}
use Rattle.std.proofs.Math.Seq.{take-add}
use Rattle.std.proofs.lemmas.Bool.{eqb-true}
use Rattle.std.proofs.lemmas.List.Elements.{All-append}
use Rattle.std.proofs.lemmas.List.{drop_at, take_at, length-map, length-replicate}
use Rattle.outside_io.specs.Image.{Image, ChangesOnly, Creates, IsTorn, IsWithinFile, Tears, WhereKnown, Writes, put_over}
use Rattle.outside_io.proofs.Ranges.{length-put_over}
use Rattle.metric_path.specs.FileName.{file_name_of, slash_for_dot}
use Rattle.ring_format.specs.Patch.{PatchValue}
use Rattle.ring_writer.specs.PartWritten.{Awaits, AwaitsNext, FailsNext, RunWritten, WritesNext}
use Rattle.ring_writer.proofs.KnownLemmas.{known_more}
use Rattle.write_shelf.specs.Shelf.{DrainValue, drain_with, marked}
use Rattle.write_shelf.specs.declared.run.Run.{Run as ShelfRun}
use Rattle.redo_log.specs.Body.{Fits, body_bytes, entries_bytes, entry_size, leading_bytes}
use Rattle.redo_log.specs.Piece.{IsFirstPiece, IsNextPiece}
use Rattle.redo_log.specs.Steps.{BeginsWith, Calls, Failed, HasWritten, IsClosed, IsGate, IsGateStep, IsNamed, IsOpen, IsReady, IsSyncStep, Leads, Stands, Taken, Touches, behind_cells, behind_run, body_front, gate_name, is_run, log_name, on_way, piece_cells, with_next}
use Rattle.redo_log.specs.declared.next_step.NextStep.{NextStep}
use Rattle.redo_log.specs.declared.next_step.NextStep.TheVariants.{CreateLog, FirstPiece, Piece, SyncBody, OpenGate, SyncOpen, Run, SyncRuns, CloseGate, SyncClose}
use Rattle.redo_log.proofs.BodyLemmas.{entries_both, length-body, length-entries}

-- ---- three names

pub log_is_no_gate : log_name ≢ gate_name
unfolding log_name gate_name
log_is_no_gate e = absurd cc

pub gate_is_no_log : gate_name ≢ log_name
gate_is_no_log e = log_is_no_gate (sym e)

ring_tail : (text : List ℕ) (n : ℕ) (other : List ℕ) → file_name_of text ≡ other → length text ≡ n → codes ".ring" ≡ drop n other
ring_tail text n other e long = sym (drop_at (map slash_for_dot text) (codes ".ring") n (length-map text slash_for_dot ∙ long)) ∙ ap (drop n) e

pub file_is_no_log : (text : List ℕ) → file_name_of text ≢ log_name
unfolding log_name
file_is_no_log text e =
    let long : length text ≡ 3 = omega (arith, ap length e, length-append (map slash_for_dot text) (codes ".ring"), length-map text slash_for_dot) in
    let same : codes ".ring" ≡ drop 3 (codes "redo.log") = ring_tail text 3 (codes "redo.log") e long in
    let first : 46 ≡ 111 = ap (λ (xs : List ℕ). get_or xs 0 0) same in
    absurd (omega (arith, first))

pub file_is_no_gate : (text : List ℕ) → file_name_of text ≢ gate_name
unfolding gate_name
file_is_no_gate text e =
    let long : length text ≡ 4 = omega (arith, ap length e, length-append (map slash_for_dot text) (codes ".ring"), length-map text slash_for_dot) in
    let same : codes ".ring" ≡ drop 4 (codes "redo.gate") = ring_tail text 4 (codes "redo.gate") e long in
    let second : 114 ≡ 103 = ap (λ (xs : List ℕ). get_or xs 1 0) same in
    absurd (omega (arith, second))

-- the names of a redo's files are three
pub record ThreeNames (name : List ℕ) : Type 0 where
  pub no_log : name ≢ log_name
  pub no_gate : name ≢ gate_name
  pub log_other : log_name ≢ name
  pub gate_other : gate_name ≢ name

pub three_names : (drain : DrainValue) (name : List ℕ) → name ≡ file_name_of drain.patch.path → ThreeNames name
three_names drain name is = record {
  no_log = λ e. file_is_no_log drain.patch.path (sym is ∙ e);
  no_gate = λ e. file_is_no_gate drain.patch.path (sym is ∙ e);
  log_other = λ e. file_is_no_log drain.patch.path (sym is ∙ sym e);
  gate_other = λ e. file_is_no_gate drain.patch.path (sym is ∙ sym e);
}

-- ---- the log

created_plain : (drain : DrainValue) (name : List ℕ) (x y : Image) → ThreeNames name → Stands drain name CreateLog x → Creates x y log_name (length (body_bytes drain.patch)) → Stands drain name FirstPiece y
created_plain drain name x y names stands made = record {
  log = subst (λ held. IsSomeAnd held (BeginsWith drain.patch [])) (sym made.0) (record { long = length-replicate (length (body_bytes drain.patch)) (let z : ℕ = 0 in z); front = refl });
  gate = subst IsClosed (sym (made.1 gate_name gate_is_no_log)) stands.gate;
  file = subst (λ held. Awaits drain.patch drain.left held) (sym (made.1 name names.no_log)) stands.file;
}

not_created_plain : (drain : DrainValue) (name : List ℕ) (x y : Image) → ThreeNames name → Stands drain name CreateLog x → ChangesOnly x y log_name → Stands drain name CreateLog y
not_created_plain drain name x y names stands only = record {
  log = tt;
  gate = subst IsClosed (sym (only gate_name gate_is_no_log)) stands.gate;
  file = subst (λ held. Awaits drain.patch drain.left held) (sym (only name names.no_log)) stands.file;
}

pub created : (shelf : Option DrainValue) (name : List ℕ) (size : ℕ) (a b : Option Image) → IsNamed shelf name → IfSome shelf (λ drain. size ≡ length (body_bytes drain.patch)) → IfSome a (IsReady (on_way shelf name CreateLog))
    → WhereKnown a b (λ x y. Creates x y log_name size) → WhereKnown a b (Taken (on_way shelf name CreateLog) (Some FirstPiece))
created None name size a b named long ready made = known_more (λ x. ⊤) (λ x y. Creates x y log_name size) (Taken (on_way None name CreateLog) (Some FirstPiece)) (λ x y s p. record { calls = tt; ready = tt }) a b (any a) made
  where
    any : (a : Option Image) → IfSome a (λ x. ⊤)
    any None = tt
    any (Some x) = tt
created (Some drain) name size a b named long ready made =
    known_more (IsReady (on_way (Some drain) name CreateLog)) (λ x y. Creates x y log_name size) (Taken (on_way (Some drain) name CreateLog) (Some FirstPiece))
    (λ x y s p. let q : Creates x y log_name (length (body_bytes drain.patch)) = subst (λ n. Creates x y log_name n) long p in record { calls = q; ready = created_plain drain name x y (three_names drain name named) s q }) a b ready made

pub not_created : (shelf : Option DrainValue) (name : List ℕ) (a b : Option Image) → IsNamed shelf name → IfSome a (IsReady (on_way shelf name CreateLog))
    → WhereKnown a b (λ x y. ChangesOnly x y log_name) → WhereKnown a b (Failed (on_way shelf name CreateLog))
not_created None name a b named ready only = known_more (IsReady (on_way None name CreateLog)) (λ x y. ChangesOnly x y log_name) (Failed (on_way None name CreateLog)) (λ x y s p. record { touches = tt; ready = tt }) a b ready only
not_created (Some drain) name a b named ready only =
    known_more (IsReady (on_way (Some drain) name CreateLog)) (λ x y. ChangesOnly x y log_name) (Failed (on_way (Some drain) name CreateLog))
    (λ x y s p. record { touches = p; ready = not_created_plain drain name x y (three_names drain name named) s p }) a b ready only

-- ---- a piece of the body

put_begins : (patch : PatchValue) (bytes piece file : List ℕ) → BeginsWith patch bytes file → length bytes + length piece ≤ length file → BeginsWith patch (bytes ++ piece) (put_over file (length bytes) piece)
put_begins patch bytes piece file begins room =
    let front : take (length bytes) file ++ piece ≡ bytes ++ piece = ap (λ (xs : List ℕ). xs ++ piece) begins.front in
    let rest : List ℕ = drop (length bytes + length piece) file in
    record {
      long = length-put_over file piece (length bytes) room ∙ begins.long;
      front = take_at (take (length bytes) file ++ piece) rest (length (bytes ++ piece)) (ap length front) ∙ front;
    }

log_put : (patch : PatchValue) (bytes piece : List ℕ) (held after : Option (List ℕ)) → IsSomeAnd held (BeginsWith patch bytes) → length bytes + length piece ≤ length (body_bytes patch)
    → after ≡ option_map (λ file. put_over file (length bytes) piece) held → IsSomeAnd after (BeginsWith patch (bytes ++ piece))
log_put patch bytes piece None after begins room is = absurd begins
log_put patch bytes piece (Some file) after begins room is =
    subst (λ o. IsSomeAnd o (BeginsWith patch (bytes ++ piece))) (sym is) (put_begins patch bytes piece file begins (omega (arith, room, begins.long)))

log_torn : (patch : PatchValue) (bytes : List ℕ) (count : ℕ) (held after : Option (List ℕ)) → IsSomeAnd held (BeginsWith patch bytes) → IfSome held (λ file. IsSomeAnd after (λ torn. IsTorn file torn (length bytes) count))
    → IsSomeAnd after (BeginsWith patch bytes)
log_torn patch bytes count None after begins torn = absurd begins
log_torn patch bytes count (Some file) None begins torn = absurd torn
log_torn patch bytes count (Some file) (Some now) begins torn = record { long = torn.0 ∙ begins.long; front = torn.1 ∙ begins.front }

begins_all : (patch : PatchValue) (file : List ℕ) → BeginsWith patch (body_bytes patch) file → file ≡ body_bytes patch
begins_all patch file begins = sym (take_all (length (body_bytes patch)) file (omega (arith, begins.long))) ∙ begins.front

pub front_all : (patch : PatchValue) (written : ℕ) → written ≡ length patch.cells → body_front patch written ≡ body_bytes patch
unfolding body_front
front_all patch written all = ap (λ cells. leading_bytes patch ++ entries_bytes cells) (take_all written patch.cells (omega (arith, all)))

log_whole : (patch : PatchValue) (bytes : List ℕ) (held : Option (List ℕ)) → bytes ≡ body_bytes patch → IsSomeAnd held (BeginsWith patch bytes) → held ≡ Some (body_bytes patch)
log_whole patch bytes None is begins = absurd begins
log_whole patch bytes (Some file) is begins = ap (λ (xs : List ℕ). Some xs) (begins_all patch file (subst (λ xs. BeginsWith patch xs file) is begins))

-- what a redo needs while the body is written
record Writing (drain : DrainValue) (name bytes : List ℕ) (image : Image) : Type 0 where
  pub log : IsSomeAnd (image log_name) (BeginsWith drain.patch bytes)
  pub gate : IsClosed (image gate_name)
  pub file : Awaits drain.patch drain.left (image name)

writing_put : (drain : DrainValue) (name bytes piece : List ℕ) (x y : Image) → ThreeNames name → Writing drain name bytes x → length bytes + length piece ≤ length (body_bytes drain.patch) → Writes x y log_name (length bytes) piece
    → Writing drain name (bytes ++ piece) y
writing_put drain name bytes piece x y names stands room puts = record {
  log = log_put drain.patch bytes piece (x log_name) (y log_name) stands.log room puts.0;
  gate = subst IsClosed (sym (puts.1 gate_name gate_is_no_log)) stands.gate;
  file = subst (λ held. Awaits drain.patch drain.left held) (sym (puts.1 name names.no_log)) stands.file;
}

writing_torn : (drain : DrainValue) (name bytes : List ℕ) (count : ℕ) (x y : Image) → ThreeNames name → Writing drain name bytes x → Tears x y log_name (length bytes) count → Writing drain name bytes y
writing_torn drain name bytes count x y names stands tears = record {
  log = log_torn drain.patch bytes count (x log_name) (y log_name) stands.log tears.0;
  gate = subst IsClosed (sym (tears.1 gate_name gate_is_no_log)) stands.gate;
  file = subst (λ held. Awaits drain.patch drain.left held) (sym (tears.1 name names.no_log)) stands.file;
}

-- behind a piece
writing_behind : (b : Bool) (drain : DrainValue) (name : List ℕ) (written : ℕ) (y : Image) (now : NextStep) → (written == length drain.patch.cells) ≡ b → is_run now ≡ false → Writing drain name (body_front drain.patch written) y
    → IsReady (with_next (on_way (Some drain) name now) (cond b SyncBody (Piece written))) y
writing_behind true drain name written y now all run stands =
    let whole : body_front drain.patch written ≡ body_bytes drain.patch = front_all drain.patch written (eqb-true written (length drain.patch.cells) all) in
    record { log = log_whole drain.patch (body_front drain.patch written) (y log_name) whole stands.log; gate = stands.gate; file = stands.file }
writing_behind false drain name written y now more run stands = record { log = stands.log; gate = stands.gate; file = stands.file }

front_fits : (patch : PatchValue) (bytes piece : List ℕ) (written : ℕ) → written ≤ length patch.cells → bytes ++ piece ≡ body_front patch written → length bytes + length piece ≤ length (body_bytes patch)
unfolding body_front
front_fits patch bytes piece written within is =
    omega (
      arith,
      within,
      ap length is,
      length-append bytes piece,
      length-append (leading_bytes patch) (entries_bytes (take written patch.cells)),
      length-entries (take written patch.cells),
      length-take written patch.cells,
      length-body patch,
    )

pub first_put : (drain : DrainValue) (name piece : List ℕ) (written : ℕ) (a b : Option Image) → name ≡ file_name_of drain.patch.path → length piece ≤ 4096 → written ≤ length drain.patch.cells → piece ≡ body_front drain.patch written
    → IfSome a (IsReady (on_way (Some drain) name FirstPiece)) → WhereKnown a b (λ x y. Writes x y log_name 0 piece) → WhereKnown a b (Taken (on_way (Some drain) name FirstPiece) (Some (behind_cells drain.patch written)))
first_put drain name piece written a b named few within is ready puts =
    known_more (IsReady (on_way (Some drain) name FirstPiece)) (λ x y. Writes x y log_name 0 piece) (Taken (on_way (Some drain) name FirstPiece) (Some (behind_cells drain.patch written)))
    (λ x y s p. record {
      calls = record { piece = piece; few = few; written = written; is = refl; body = is; puts = p };
      ready = writing_behind (written == length drain.patch.cells) drain name written y FirstPiece refl refl
          (subst (λ (xs : List ℕ). Writing drain name xs y) is
          (writing_put drain name [] piece x y (three_names drain name named) (record { log = s.log; gate = s.gate; file = s.file }) (front_fits drain.patch [] piece written within is) p));
    }) a b ready puts

pub next_put : (drain : DrainValue) (name piece : List ℕ) (from written : ℕ) (a b : Option Image) → name ≡ file_name_of drain.patch.path → length piece ≤ 4096 → written ≤ length drain.patch.cells → body_front drain.patch from ++ piece ≡ body_front drain.patch written
    → IfSome a (IsReady (on_way (Some drain) name (Piece from))) → WhereKnown a b (λ x y. Writes x y log_name (length (body_front drain.patch from)) piece)
    → WhereKnown a b (Taken (on_way (Some drain) name (Piece from)) (Some (behind_cells drain.patch written)))
next_put drain name piece from written a b named few within is ready puts =
    known_more (IsReady (on_way (Some drain) name (Piece from))) (λ x y. Writes x y log_name (length (body_front drain.patch from)) piece) (Taken (on_way (Some drain) name (Piece from)) (Some (behind_cells drain.patch written)))
    (λ x y s p. record {
      calls = record { piece = piece; few = few; written = written; is = refl; body = is; puts = p };
      ready = writing_behind (written == length drain.patch.cells) drain name written y (Piece from) refl refl
          (subst (λ (xs : List ℕ). Writing drain name xs y) is
          (writing_put drain name (body_front drain.patch from) piece x y (three_names drain name named) (record { log = s.log; gate = s.gate; file = s.file }) (front_fits drain.patch (body_front drain.patch from) piece written within is) p));
    }) a b ready puts

pub first_torn : (drain : DrainValue) (name : List ℕ) (count : ℕ) (a b : Option Image) → name ≡ file_name_of drain.patch.path → count ≤ 4096 → IfSome a (IsReady (on_way (Some drain) name FirstPiece))
    → WhereKnown a b (λ x y. Tears x y log_name 0 count) → WhereKnown a b (Failed (on_way (Some drain) name FirstPiece))
first_torn drain name count a b named few ready tears =
    known_more (IsReady (on_way (Some drain) name FirstPiece)) (λ x y. Tears x y log_name 0 count) (Failed (on_way (Some drain) name FirstPiece))
    (λ x y s p. let w = writing_torn drain name [] count x y (three_names drain name named) (record { log = s.log; gate = s.gate; file = s.file }) p in record {
      touches = record { count = count; few = few; tears = p };
      ready = record { log = w.log; gate = w.gate; file = w.file };
    }) a b ready tears

pub next_torn : (drain : DrainValue) (name : List ℕ) (from count : ℕ) (a b : Option Image) → name ≡ file_name_of drain.patch.path → count ≤ 4096 → IfSome a (IsReady (on_way (Some drain) name (Piece from)))
    → WhereKnown a b (λ x y. Tears x y log_name (length (body_front drain.patch from)) count) → WhereKnown a b (Failed (on_way (Some drain) name (Piece from)))
next_torn drain name from count a b named few ready tears =
    known_more (IsReady (on_way (Some drain) name (Piece from))) (λ x y. Tears x y log_name (length (body_front drain.patch from)) count) (Failed (on_way (Some drain) name (Piece from)))
    (λ x y s p. let w = writing_torn drain name (body_front drain.patch from) count x y (three_names drain name named) (record { log = s.log; gate = s.gate; file = s.file }) p in record {
      touches = record { count = count; few = few; tears = p };
      ready = record { log = w.log; gate = w.gate; file = w.file };
    }) a b ready tears

-- the piece lies in the log
log_within : (patch : PatchValue) (bytes : List ℕ) (count : ℕ) (held : Option (List ℕ)) → IsSomeAnd held (BeginsWith patch bytes) → length bytes + count ≤ length (body_bytes patch) → IsSomeAnd held (λ file. length bytes + count ≤ length file)
log_within patch bytes count None begins room = absurd begins
log_within patch bytes count (Some file) begins room = omega (arith, room, begins.long)

pub first_within : (drain : DrainValue) (name piece : List ℕ) (written : ℕ) (a : Option Image) → written ≤ length drain.patch.cells → piece ≡ body_front drain.patch written → IfSome a (IsReady (on_way (Some drain) name FirstPiece))
    → IsWithinFile a log_name 0 (length piece)
first_within drain name piece written None within is ready = tt
first_within drain name piece written (Some image) within is ready = log_within drain.patch [] (length piece) (image log_name) ready.log (front_fits drain.patch [] piece written within is)

pub next_within : (drain : DrainValue) (name piece : List ℕ) (from written : ℕ) (a : Option Image) → written ≤ length drain.patch.cells → body_front drain.patch from ++ piece ≡ body_front drain.patch written
    → IfSome a (IsReady (on_way (Some drain) name (Piece from))) → IsWithinFile a log_name (length (body_front drain.patch from)) (length piece)
next_within drain name piece from written None within is ready = tt
next_within drain name piece from written (Some image) within is ready = log_within drain.patch (body_front drain.patch from) (length piece) (image log_name) ready.log (front_fits drain.patch (body_front drain.patch from) piece written within is)

-- the front behind a piece
pub front_first : (patch : PatchValue) (count : ℕ) → leading_bytes patch ++ entries_bytes (take count patch.cells) ≡ body_front patch count
unfolding body_front
front_first patch count = refl

pub front_more : (patch : PatchValue) (from count : ℕ) → body_front patch from ++ entries_bytes (take count (drop from patch.cells)) ≡ body_front patch (from + count)
unfolding body_front
front_more patch from count =
    append_assoc (leading_bytes patch) (entries_bytes (take from patch.cells)) (entries_bytes (take count (drop from patch.cells)))
    ∙ ap (λ (xs : List ℕ). leading_bytes patch ++ xs) (sym (entries_both (take from patch.cells) (take count (drop from patch.cells))) ∙ ap entries_bytes (sym (take-add from count patch.cells)))

pub length-front : (patch : PatchValue) (from : ℕ) → from ≤ length patch.cells → length (body_front patch from) ≡ length (leading_bytes patch) + entry_size * from
unfolding body_front
length-front patch from within =
    omega (arith, within, length-append (leading_bytes patch) (entries_bytes (take from patch.cells)), length-entries (take from patch.cells), length-take from patch.cells)

-- the length of the body of a shelf's patch
pub size_is : (shelf : Option DrainValue) (patch : PatchValue) → IfSome shelf (λ drain. patch ≡ drain.patch) → IfSome shelf (λ drain. length (body_bytes patch) ≡ length (body_bytes drain.patch))
size_is None patch is = tt
size_is (Some drain) patch is = ap (λ (p : PatchValue). length (body_bytes p)) is

-- ---- a sync

pub closed_is_gate : (held : Option (List ℕ)) → IsClosed held → IsGate held
closed_is_gate None closed = absurd closed
closed_is_gate (Some []) closed = absurd closed
closed_is_gate (Some (x ∷ xs)) closed = omega arith

pub open_is_gate : (held : Option (List ℕ)) → IsOpen held → IsGate held
open_is_gate None open_one = absurd open_one
open_is_gate (Some []) open_one = absurd cc
open_is_gate (Some (x ∷ xs)) open_one = omega arith

abbrev Goes : DrainValue → List ℕ → NextStep → Option NextStep → Image → Type 0
Goes drain name now behind x = Calls drain name now behind x x × IfSome behind (λ next. IsReady (with_next (on_way (Some drain) name now) next) x)

synced_plain : (drain : DrainValue) (name : List ℕ) (now : NextStep) (behind : Option NextStep) (x : Image) → IsSyncStep now behind → Stands drain name now x → Goes drain name now behind x
synced_plain drain name CreateLog behind x step s = absurd step
synced_plain drain name FirstPiece behind x step s = absurd step
synced_plain drain name (Piece written) behind x step s = absurd step
synced_plain drain name SyncBody behind x step s =
    subst (λ (o : Option NextStep). Goes drain name SyncBody o x) (sym step) (λ n. refl, record { log = s.log; gate = closed_is_gate (x gate_name) s.gate; file = s.file })
synced_plain drain name OpenGate behind x step s = absurd step
synced_plain drain name SyncOpen behind x step s = subst (λ (o : Option NextStep). Goes drain name SyncOpen o x) (sym step) (λ n. refl, record { log = s.log; gate = s.gate; file = s.file })
synced_plain drain name Run behind x step s = absurd step
synced_plain drain name SyncRuns behind x step s =
    subst (λ (o : Option NextStep). Goes drain name SyncRuns o x) (sym step) (λ n. refl, record { log = s.log; gate = open_is_gate (x gate_name) s.gate; file = s.file })
synced_plain drain name CloseGate behind x step s = absurd step
synced_plain drain name SyncClose behind x step s = subst (λ (o : Option NextStep). Goes drain name SyncClose o x) (sym step) (λ n. refl, tt)

no_sync_plain : (drain : DrainValue) (name : List ℕ) (now : NextStep) (behind : Option NextStep) (x : Image) → IsSyncStep now behind → Touches drain name now x x
no_sync_plain drain name CreateLog behind x step = absurd step
no_sync_plain drain name FirstPiece behind x step = absurd step
no_sync_plain drain name (Piece written) behind x step = absurd step
no_sync_plain drain name SyncBody behind x step = λ n. refl
no_sync_plain drain name OpenGate behind x step = absurd step
no_sync_plain drain name SyncOpen behind x step = λ n. refl
no_sync_plain drain name Run behind x step = absurd step
no_sync_plain drain name SyncRuns behind x step = λ n. refl
no_sync_plain drain name CloseGate behind x step = absurd step
no_sync_plain drain name SyncClose behind x step = λ n. refl

still : (P : Image → Image → Type 0) (a : Option Image) → IfSome a (λ x. P x x) → WhereKnown a a P
still P None p = tt
still P (Some x) p = p

nothing_taken : (name : List ℕ) (now : NextStep) (behind : Option NextStep) (x y : Image) → Taken (on_way None name now) behind x y
nothing_taken name now None x y = record { calls = tt; ready = tt }
nothing_taken name now (Some next) x y = record { calls = tt; ready = none_ready (is_run next && is_run now) }
  where
    none_ready : (b : Bool) → IfSome (cond b (marked None) None) (λ drain. Stands drain name next y)
    none_ready true = tt
    none_ready false = tt

any_image : (P : Image → Type 0) (a : Option Image) → ((x : Image) → P x) → IfSome a P
any_image P None each = tt
any_image P (Some x) each = each x

pub synced : (shelf : Option DrainValue) (name : List ℕ) (now : NextStep) (behind : Option NextStep) (a b : Option Image) → IsSyncStep now behind → IfSome a (IsReady (on_way shelf name now)) → b ≡ a
    → WhereKnown a b (Taken (on_way shelf name now) behind)
synced None name now behind a b step ready kept = subst (λ (o : Option Image). WhereKnown a o (Taken (on_way None name now) behind)) (sym kept)
    (still (Taken (on_way None name now) behind) a (any_image (λ x. Taken (on_way None name now) behind x x) a (λ x. nothing_taken name now behind x x)))
synced (Some drain) name now behind a b step ready kept = subst (λ (o : Option Image). WhereKnown a o (Taken (on_way (Some drain) name now) behind)) (sym kept)
    (still (Taken (on_way (Some drain) name now) behind) a (ready_more a ready))
  where
    ready_more : (a : Option Image) → IfSome a (IsReady (on_way (Some drain) name now)) → IfSome a (λ x. Taken (on_way (Some drain) name now) behind x x)
    ready_more None ready = tt
    ready_more (Some x) ready = let goes = synced_plain drain name now behind x step ready in record { calls = goes.0; ready = goes.1 }

pub not_synced : (shelf : Option DrainValue) (name : List ℕ) (now : NextStep) (behind : Option NextStep) (a b : Option Image) → IsSyncStep now behind → IfSome a (IsReady (on_way shelf name now)) → b ≡ a
    → WhereKnown a b (Failed (on_way shelf name now))
not_synced None name now behind a b step ready kept = subst (λ (o : Option Image). WhereKnown a o (Failed (on_way None name now))) (sym kept)
    (still (Failed (on_way None name now)) a (any_image (λ x. Failed (on_way None name now) x x) a (λ x. record { touches = tt; ready = tt })))
not_synced (Some drain) name now behind a b step ready kept = subst (λ (o : Option Image). WhereKnown a o (Failed (on_way (Some drain) name now))) (sym kept)
    (still (Failed (on_way (Some drain) name now)) a (ready_more a ready))
  where
    ready_more : (a : Option Image) → IfSome a (IsReady (on_way (Some drain) name now)) → IfSome a (λ x. Failed (on_way (Some drain) name now) x x)
    ready_more None ready = tt
    ready_more (Some x) ready = record { touches = no_sync_plain drain name now behind x step; ready = ready }

-- ---- the gate

pub gate_put : (byte : ℕ) (held after : Option (List ℕ)) → IsGate held → after ≡ option_map (λ file. put_over file 0 (byte ∷ [])) held → IsSomeAnd after (λ file. slice_get file 0 ≡ Some byte)
gate_put byte None after gate is = absurd gate
gate_put byte (Some []) after gate is = absurd (omega (arith, gate))
gate_put byte (Some (x ∷ xs)) after gate is = rw is refl

pub gate_torn : (held after : Option (List ℕ)) → IsGate held → IfSome held (λ file. IsSomeAnd after (λ torn. IsTorn file torn 0 1)) → IsGate after
gate_torn None after gate torn = absurd gate
gate_torn (Some file) None gate torn = absurd torn
gate_torn (Some file) (Some now) gate torn = omega (arith, gate, torn.0)

pub closed_by : (held : Option (List ℕ)) → IsSomeAnd held (λ file. slice_get file 0 ≡ Some 0) → IsClosed held
closed_by None is = absurd is
closed_by (Some file) is = rw is (λ e. absurd (omega (arith, e)))

gate_set_plain : (drain : DrainValue) (name : List ℕ) (byte : ℕ) (now : NextStep) (behind : Option NextStep) (x y : Image) → ThreeNames name → IsGateStep byte now behind → Stands drain name now x
    → Writes x y gate_name 0 (byte ∷ []) → Calls drain name now behind x y × IfSome behind (λ next. IsReady (with_next (on_way (Some drain) name now) next) y)
gate_set_plain drain name byte CreateLog behind x y names step s p = absurd step
gate_set_plain drain name byte FirstPiece behind x y names step s p = absurd step
gate_set_plain drain name byte (Piece written) behind x y names step s p = absurd step
gate_set_plain drain name byte SyncBody behind x y names step s p = absurd step
gate_set_plain drain name byte OpenGate behind x y names step s p =
    subst (λ (o : Option NextStep). Calls drain name OpenGate o x y × IfSome o (λ next. IsReady (with_next (on_way (Some drain) name OpenGate) next) y)) (sym step.1) (
      subst (λ (n : ℕ). Writes x y gate_name 0 (n ∷ [])) step.0 p,
      record {
        log = p.1 log_name log_is_no_gate ∙ s.log;
        gate = subst (λ (n : ℕ). IsSomeAnd (y gate_name) (λ file. slice_get file 0 ≡ Some n)) step.0 (gate_put byte (x gate_name) (y gate_name) s.gate p.0);
        file = subst (λ held. Awaits drain.patch drain.left held) (sym (p.1 name names.no_gate)) s.file;
      },
    )
gate_set_plain drain name byte SyncOpen behind x y names step s p = absurd step
gate_set_plain drain name byte Run behind x y names step s p = absurd step
gate_set_plain drain name byte SyncRuns behind x y names step s p = absurd step
gate_set_plain drain name byte CloseGate behind x y names step s p =
    subst (λ (o : Option NextStep). Calls drain name CloseGate o x y × IfSome o (λ next. IsReady (with_next (on_way (Some drain) name CloseGate) next) y)) (sym step.1) (
      subst (λ (n : ℕ). Writes x y gate_name 0 (n ∷ [])) step.0 p,
      record {
        log = p.1 log_name log_is_no_gate ∙ s.log;
        gate = closed_by (y gate_name) (subst (λ (n : ℕ). IsSomeAnd (y gate_name) (λ file. slice_get file 0 ≡ Some n)) step.0 (gate_put byte (x gate_name) (y gate_name) s.gate p.0));
        file = subst (λ held. Awaits drain.patch [] held) (sym (p.1 name names.no_gate)) s.file;
      },
    )
gate_set_plain drain name byte SyncClose behind x y names step s p = absurd step

gate_torn_plain : (drain : DrainValue) (name : List ℕ) (byte : ℕ) (now : NextStep) (behind : Option NextStep) (x y : Image) → ThreeNames name → IsGateStep byte now behind → Stands drain name now x
    → Tears x y gate_name 0 1 → Touches drain name now x y × Stands drain name now y
gate_torn_plain drain name byte CreateLog behind x y names step s p = absurd step
gate_torn_plain drain name byte FirstPiece behind x y names step s p = absurd step
gate_torn_plain drain name byte (Piece written) behind x y names step s p = absurd step
gate_torn_plain drain name byte SyncBody behind x y names step s p = absurd step
gate_torn_plain drain name byte OpenGate behind x y names step s p = (
  p,
  record {
    log = p.1 log_name log_is_no_gate ∙ s.log;
    gate = gate_torn (x gate_name) (y gate_name) s.gate p.0;
    file = subst (λ held. Awaits drain.patch drain.left held) (sym (p.1 name names.no_gate)) s.file;
  },
)
gate_torn_plain drain name byte SyncOpen behind x y names step s p = absurd step
gate_torn_plain drain name byte Run behind x y names step s p = absurd step
gate_torn_plain drain name byte SyncRuns behind x y names step s p = absurd step
gate_torn_plain drain name byte CloseGate behind x y names step s p = (
  p,
  record {
    log = p.1 log_name log_is_no_gate ∙ s.log;
    gate = gate_torn (x gate_name) (y gate_name) s.gate p.0;
    file = subst (λ held. Awaits drain.patch [] held) (sym (p.1 name names.no_gate)) s.file;
  },
)
gate_torn_plain drain name byte SyncClose behind x y names step s p = absurd step

pub gate_set : (shelf : Option DrainValue) (name : List ℕ) (byte : ℕ) (now : NextStep) (behind : Option NextStep) (a b : Option Image) → IsNamed shelf name → IsGateStep byte now behind → IfSome a (IsReady (on_way shelf name now))
    → WhereKnown a b (λ x y. Writes x y gate_name 0 (byte ∷ [])) → WhereKnown a b (Taken (on_way shelf name now) behind)
gate_set None name byte now behind a b named step ready puts =
    known_more (IsReady (on_way None name now)) (λ x y. Writes x y gate_name 0 (byte ∷ [])) (Taken (on_way None name now) behind) (λ x y s p. nothing_taken name now behind x y) a b ready puts
gate_set (Some drain) name byte now behind a b named step ready puts =
    known_more (IsReady (on_way (Some drain) name now)) (λ x y. Writes x y gate_name 0 (byte ∷ [])) (Taken (on_way (Some drain) name now) behind)
    (λ x y s p. let q = gate_set_plain drain name byte now behind x y (three_names drain name named) step s p in record { calls = q.0; ready = q.1 }) a b ready puts

pub gate_not_set : (shelf : Option DrainValue) (name : List ℕ) (byte : ℕ) (now : NextStep) (behind : Option NextStep) (a b : Option Image) → IsNamed shelf name → IsGateStep byte now behind → IfSome a (IsReady (on_way shelf name now))
    → WhereKnown a b (λ x y. Tears x y gate_name 0 1) → WhereKnown a b (Failed (on_way shelf name now))
gate_not_set None name byte now behind a b named step ready tears =
    known_more (IsReady (on_way None name now)) (λ x y. Tears x y gate_name 0 1) (Failed (on_way None name now)) (λ x y s p. record { touches = tt; ready = tt }) a b ready tears
gate_not_set (Some drain) name byte now behind a b named step ready tears =
    known_more (IsReady (on_way (Some drain) name now)) (λ x y. Tears x y gate_name 0 1) (Failed (on_way (Some drain) name now))
    (λ x y s p. let q = gate_torn_plain drain name byte now behind x y (three_names drain name named) step s p in record { touches = q.0; ready = q.1 }) a b ready tears

gate_here : (drain : DrainValue) (name : List ℕ) (byte : ℕ) (now : NextStep) (behind : Option NextStep) (x : Image) → IsGateStep byte now behind → Stands drain name now x → IsGate (x gate_name)
gate_here drain name byte CreateLog behind x step s = absurd step
gate_here drain name byte FirstPiece behind x step s = absurd step
gate_here drain name byte (Piece written) behind x step s = absurd step
gate_here drain name byte SyncBody behind x step s = absurd step
gate_here drain name byte OpenGate behind x step s = s.gate
gate_here drain name byte SyncOpen behind x step s = absurd step
gate_here drain name byte Run behind x step s = absurd step
gate_here drain name byte SyncRuns behind x step s = absurd step
gate_here drain name byte CloseGate behind x step s = s.gate
gate_here drain name byte SyncClose behind x step s = absurd step

pub gate_within : (shelf : Option DrainValue) (name : List ℕ) (byte : ℕ) (now : NextStep) (behind : Option NextStep) (a : Option Image) → shelf ≢ None → IsGateStep byte now behind → IfSome a (IsReady (on_way shelf name now))
    → IsWithinFile a gate_name 0 1
gate_within None name byte now behind a some step ready = absurd (some refl)
gate_within (Some drain) name byte now behind None some step ready = tt
gate_within (Some drain) name byte now behind (Some x) some step ready = gate_here drain name byte now behind x step ready

-- ---- a run

next_stands : (patch : PatchValue) (rest : List ShelfRun) (name : List ℕ) (y : Image) → Awaits patch rest (y name) → y log_name ≡ Some (body_bytes patch) → IsOpen (y gate_name)
    → IfSome (drain_with patch rest) (λ drain. Stands drain name Run y)
next_stands patch [] name y awaits log gate = tt
next_stands patch (run ∷ rest) name y awaits log gate = record { log = log; gate = gate; file = awaits }

none_behind : (left : List ShelfRun) → length left ≡ 1 → drop 1 left ≡ []
none_behind [] one = absurd (omega (arith, one))
none_behind (run ∷ []) one = refl
none_behind (run ∷ next ∷ left) one = absurd (omega (arith, one))

ran_plain : (b : Bool) (drain : DrainValue) (name : List ℕ) (x y : Image) → (length drain.left == 1) ≡ b → ThreeNames name → Stands drain name Run x → RunWritten drain name x y
    → IsReady (with_next (on_way (Some drain) name Run) (cond b SyncRuns Run)) y
ran_plain true drain name x y one names s p = record {
  log = p.comes.others log_name names.log_other ∙ s.log;
  gate = subst IsOpen (sym (p.comes.others gate_name names.gate_other)) s.gate;
  file = subst (λ (rest : List ShelfRun). Awaits drain.patch rest (y name)) (none_behind drain.left (eqb-true (length drain.left) 1 one)) p.comes.far;
}
ran_plain false drain name x y more names s p =
    next_stands drain.patch (drop 1 drain.left) name y p.comes.far (p.comes.others log_name names.log_other ∙ s.log) (subst IsOpen (sym (p.comes.others gate_name names.gate_other)) s.gate)

pub ran : (shelf : Option DrainValue) (name : List ℕ) (next : NextStep) (a b : Option Image) → IsNamed shelf name → IfSome shelf (λ drain. next ≡ behind_run drain) → IfSome a (IsReady (on_way shelf name Run))
    → WhereKnown a b (WritesNext shelf name) → WhereKnown a b (Taken (on_way shelf name Run) (Some next))
ran None name next a b named is ready puts = known_more (IsReady (on_way None name Run)) (WritesNext None name) (Taken (on_way None name Run) (Some next)) (λ x y s p. nothing_taken name Run (Some next) x y) a b ready puts
ran (Some drain) name next a b named is ready puts =
    known_more (IsReady (on_way (Some drain) name Run)) (WritesNext (Some drain) name) (Taken (on_way (Some drain) name Run) (Some next))
    (λ x y s p. record {
      calls = p;
      ready = subst (λ (n : NextStep). IsReady (with_next (on_way (Some drain) name Run) n) y) (sym is) (ran_plain (length drain.left == 1) drain name x y refl (three_names drain name named) s p);
    }) a b ready puts

pub not_ran : (shelf : Option DrainValue) (name : List ℕ) (a b : Option Image) → IsNamed shelf name → IfSome a (IsReady (on_way shelf name Run)) → WhereKnown a b (FailsNext shelf name)
    → WhereKnown a b (Failed (on_way shelf name Run))
not_ran None name a b named ready fails = known_more (IsReady (on_way None name Run)) (FailsNext None name) (Failed (on_way None name Run)) (λ x y s p. record { touches = tt; ready = tt }) a b ready fails
not_ran (Some drain) name a b named ready fails =
    known_more (IsReady (on_way (Some drain) name Run)) (FailsNext (Some drain) name) (Failed (on_way (Some drain) name Run))
    (λ x y s p. let names = three_names drain name named in record {
      touches = p;
      ready = record {
        log = p.comes.others log_name names.log_other ∙ s.log;
        gate = subst IsOpen (sym (p.comes.others gate_name names.gate_other)) s.gate;
        file = p.comes.far;
      };
    }) a b ready fails

pub run_awaits : (shelf : Option DrainValue) (name : List ℕ) (a : Option Image) → IfSome a (IsReady (on_way shelf name Run)) → IfSome a (λ image. AwaitsNext shelf (image name))
run_awaits shelf name None ready = tt
run_awaits None name (Some x) ready = tt
run_awaits (Some drain) name (Some x) ready = ready.file

behind_run_written : (b : Bool) (patch : PatchValue) → All Fits patch.cells → HasWritten patch (cond b SyncRuns Run)
behind_run_written true patch fits = fits
behind_run_written false patch fits = fits

pub run_leads : (shelf : Option DrainValue) (next : NextStep) → IfSome shelf (λ drain. HasWritten drain.patch Run) → IfSome shelf (λ drain. next ≡ behind_run drain) → IfSome shelf (λ drain. Leads drain Run (Some next))
run_leads None next fits is = tt
run_leads (Some drain) next fits is = (ap (λ (n : NextStep). Some n) is, subst (HasWritten drain.patch) (sym is) (behind_run_written (length drain.left == 1) drain.patch fits))

-- ---- pieces of the patch of a shelf

pub first_piece_within : (shelf : Option DrainValue) (name : List ℕ) (patch : PatchValue) (len count : ℕ) (out : List ℕ) (a : Option Image) → shelf ≢ None → IfSome shelf (λ drain. patch ≡ drain.patch) → IsFirstPiece patch len count out
    → IfSome a (IsReady (on_way shelf name FirstPiece)) → IsWithinFile a log_name 0 (length (take len out))
first_piece_within None name patch len count out a some same piece ready = absurd (some refl)
first_piece_within (Some drain) name patch len count out a some same piece ready =
    let is : IsFirstPiece drain.patch len count out = subst (λ (p : PatchValue). IsFirstPiece p len count out) same piece in
    first_within drain name (take len out) count a is.within (is.bytes ∙ front_first drain.patch count) ready

pub first_piece_put : (shelf : Option DrainValue) (name : List ℕ) (patch : PatchValue) (len count : ℕ) (out : List ℕ) (next : NextStep) (a b : Option Image) → shelf ≢ None → IsNamed shelf name → IfSome shelf (λ drain. patch ≡ drain.patch)
    → IsFirstPiece patch len count out → next ≡ behind_cells patch count → IfSome a (IsReady (on_way shelf name FirstPiece)) → WhereKnown a b (λ x y. Writes x y log_name 0 (take len out))
    → WhereKnown a b (Taken (on_way shelf name FirstPiece) (Some next))
first_piece_put None name patch len count out next a b some named same piece behind ready puts = absurd (some refl)
first_piece_put (Some drain) name patch len count out next a b some named same piece behind ready puts =
    let is : IsFirstPiece drain.patch len count out = subst (λ (p : PatchValue). IsFirstPiece p len count out) same piece in
    let then_is : next ≡ behind_cells drain.patch count = behind ∙ ap (λ (p : PatchValue). behind_cells p count) same in
    subst (λ (n : NextStep). WhereKnown a b (Taken (on_way (Some drain) name FirstPiece) (Some n))) (sym then_is)
    (first_put drain name (take len out) count a b named (omega (arith, is.low, length-take len out)) is.within (is.bytes ∙ front_first drain.patch count) ready puts)

pub first_piece_torn : (shelf : Option DrainValue) (name : List ℕ) (patch : PatchValue) (len count : ℕ) (out : List ℕ) (a b : Option Image) → shelf ≢ None → IsNamed shelf name → IsFirstPiece patch len count out
    → IfSome a (IsReady (on_way shelf name FirstPiece)) → WhereKnown a b (λ x y. Tears x y log_name 0 (length (take len out))) → WhereKnown a b (Failed (on_way shelf name FirstPiece))
first_piece_torn None name patch len count out a b some named piece ready tears = absurd (some refl)
first_piece_torn (Some drain) name patch len count out a b some named piece ready tears =
    first_torn drain name (length (take len out)) a b named (omega (arith, piece.low, length-take len out)) ready tears

-- the place of a later piece
next_place : (drain : DrainValue) (written at : ℕ) → HasWritten drain.patch (Piece written) → at ≡ length (leading_bytes drain.patch) + entry_size * written → at ≡ length (body_front drain.patch written)
next_place drain written at fits is = is ∙ sym (length-front drain.patch written fits.0)

pub next_piece_within : (shelf : Option DrainValue) (name : List ℕ) (patch : PatchValue) (written at len count : ℕ) (out : List ℕ) (a : Option Image) → shelf ≢ None → IfSome shelf (λ drain. patch ≡ drain.patch)
    → IfSome shelf (λ drain. HasWritten drain.patch (Piece written)) → at ≡ length (leading_bytes patch) + entry_size * written → IsNextPiece patch written len count out
    → IfSome a (IsReady (on_way shelf name (Piece written))) → IsWithinFile a log_name at (length (take len out))
next_piece_within None name patch written at len count out a some same fits place piece ready = absurd (some refl)
next_piece_within (Some drain) name patch written at len count out a some same fits place piece ready =
    let is : IsNextPiece drain.patch written len count out = subst (λ (p : PatchValue). IsNextPiece p written len count out) same piece in
    let here : at ≡ length (body_front drain.patch written) = next_place drain written at fits (place ∙ ap (λ (p : PatchValue). length (leading_bytes p) + entry_size * written) same) in
    subst (λ (n : ℕ). IsWithinFile a log_name n (length (take len out))) (sym here)
    (next_within drain name (take len out) written (written + count) a is.within (ap (λ (xs : List ℕ). body_front drain.patch written ++ xs) is.bytes ∙ front_more drain.patch written count) ready)

pub next_piece_put : (shelf : Option DrainValue) (name : List ℕ) (patch : PatchValue) (written at len count : ℕ) (out : List ℕ) (next : NextStep) (a b : Option Image) → shelf ≢ None → IsNamed shelf name → IfSome shelf (λ drain. patch ≡ drain.patch)
    → IfSome shelf (λ drain. HasWritten drain.patch (Piece written)) → at ≡ length (leading_bytes patch) + entry_size * written → IsNextPiece patch written len count out → next ≡ behind_cells patch (written + count)
    → IfSome a (IsReady (on_way shelf name (Piece written))) → WhereKnown a b (λ x y. Writes x y log_name at (take len out)) → WhereKnown a b (Taken (on_way shelf name (Piece written)) (Some next))
next_piece_put None name patch written at len count out next a b some named same fits place piece behind ready puts = absurd (some refl)
next_piece_put (Some drain) name patch written at len count out next a b some named same fits place piece behind ready puts =
    let is : IsNextPiece drain.patch written len count out = subst (λ (p : PatchValue). IsNextPiece p written len count out) same piece in
    let here : at ≡ length (body_front drain.patch written) = next_place drain written at fits (place ∙ ap (λ (p : PatchValue). length (leading_bytes p) + entry_size * written) same) in
    let then_is : next ≡ behind_cells drain.patch (written + count) = behind ∙ ap (λ (p : PatchValue). behind_cells p (written + count)) same in
    subst (λ (n : NextStep). WhereKnown a b (Taken (on_way (Some drain) name (Piece written)) (Some n))) (sym then_is)
    (next_put drain name (take len out) written (written + count) a b named (omega (arith, is.low, length-take len out)) is.within
    (ap (λ (xs : List ℕ). body_front drain.patch written ++ xs) is.bytes ∙ front_more drain.patch written count) ready (subst (λ (n : ℕ). WhereKnown a b (λ x y. Writes x y log_name n (take len out))) here puts))

pub next_piece_torn : (shelf : Option DrainValue) (name : List ℕ) (patch : PatchValue) (written at len count : ℕ) (out : List ℕ) (a b : Option Image) → shelf ≢ None → IsNamed shelf name → IfSome shelf (λ drain. patch ≡ drain.patch)
    → IfSome shelf (λ drain. HasWritten drain.patch (Piece written)) → at ≡ length (leading_bytes patch) + entry_size * written → IsNextPiece patch written len count out
    → IfSome a (IsReady (on_way shelf name (Piece written))) → WhereKnown a b (λ x y. Tears x y log_name at (length (take len out))) → WhereKnown a b (Failed (on_way shelf name (Piece written)))
next_piece_torn None name patch written at len count out a b some named same fits place piece ready tears = absurd (some refl)
next_piece_torn (Some drain) name patch written at len count out a b some named same fits place piece ready tears =
    let here : at ≡ length (body_front drain.patch written) = next_place drain written at fits (place ∙ ap (λ (p : PatchValue). length (leading_bytes p) + entry_size * written) same) in
    next_torn drain name written (length (take len out)) a b named (omega (arith, piece.low, length-take len out)) ready
    (subst (λ (n : ℕ). WhereKnown a b (λ x y. Tears x y log_name n (length (take len out)))) here tears)

cells_written : (b : Bool) (patch : PatchValue) (written : ℕ) → (written == length patch.cells) ≡ b → written ≤ length patch.cells → All Fits (take written patch.cells) → HasWritten patch (cond b SyncBody (Piece written))
cells_written true patch written all within fits = subst (λ cells. All Fits cells) (take_all written patch.cells (omega (arith, eqb-true written (length patch.cells) all))) fits
cells_written false patch written more within fits = (within, fits)

piece_more : (patch : PatchValue) (from count len : ℕ) (out : List ℕ) → IsNextPiece patch from len count out → (from + piece_cells ≤ from + count) ⊎ (from + count ≡ length patch.cells)
piece_more patch from count len out piece = ⊎_elim (λ more. inl (omega (arith, more))) (λ all. inr all) piece.full

pub next_piece_leads : (shelf : Option DrainValue) (patch : PatchValue) (written len count : ℕ) (out : List ℕ) (next : NextStep) → IfSome shelf (λ drain. patch ≡ drain.patch) → IfSome shelf (λ drain. HasWritten drain.patch (Piece written))
    → IsNextPiece patch written len count out → next ≡ behind_cells patch (written + count) → IfSome shelf (λ drain. Leads drain (Piece written) (Some next))
next_piece_leads None patch written len count out next same fits piece behind = tt
next_piece_leads (Some drain) patch written len count out next same fits piece behind =
    let is : IsNextPiece drain.patch written len count out = subst (λ (p : PatchValue). IsNextPiece p written len count out) same piece in
    let then_is : next ≡ behind_cells drain.patch (written + count) = behind ∙ ap (λ (p : PatchValue). behind_cells p (written + count)) same in
    let all : All Fits (take (written + count) drain.patch.cells) = subst (λ cells. All Fits cells) (sym (take-add written count drain.patch.cells)) (All-append Fits (take written drain.patch.cells) (take count (drop written drain.patch.cells)) fits.1 is.fit) in (
      record { written = written + count; within = is.within; more = piece_more drain.patch written count len out is; is = ap (λ (n : NextStep). Some n) then_is },
      subst (HasWritten drain.patch) (sym then_is) (cells_written (written + count == length drain.patch.cells) drain.patch (written + count) refl is.within all),
    )

pub each_ok : {T E P : Type 0} (r : Result T E) → P → OnOk r P
each_ok (Ok x) p = p
each_ok (Err e) p = tt

pub each_err : {T E P : Type 0} (r : Result T E) → P → OnErr r P
each_err (Ok x) p = tt
each_err (Err e) p = p

pub written_low : (shelf : Option DrainValue) (patch : PatchValue) (written : ℕ) → shelf ≢ None → IfSome shelf (λ drain. patch ≡ drain.patch) → IfSome shelf (λ drain. HasWritten drain.patch (Piece written)) → written ≤ length patch.cells
written_low None patch written some same fits = absurd (some refl)
written_low (Some drain) patch written some same fits = omega (arith, fits.0, ap (λ (p : PatchValue). length p.cells) same)

pub create_leads : (shelf : Option DrainValue) → IfSome shelf (λ drain. Leads drain CreateLog (Some FirstPiece))
create_leads None = tt
create_leads (Some drain) = (refl, tt)

leads_to : (drain : DrainValue) (now : NextStep) (behind made : Option NextStep) → behind ≡ made → Leads drain now made → Leads drain now behind
leads_to drain now behind made is leads = subst (Leads drain now) (sym is) leads

sync_leads_plain : (drain : DrainValue) (now : NextStep) (behind : Option NextStep) → IsSyncStep now behind → HasWritten drain.patch now → Leads drain now behind
sync_leads_plain drain CreateLog behind step fits = absurd step
sync_leads_plain drain FirstPiece behind step fits = absurd step
sync_leads_plain drain (Piece written) behind step fits = absurd step
sync_leads_plain drain SyncBody behind step fits = leads_to drain SyncBody behind (Some OpenGate) step (refl, fits)
sync_leads_plain drain OpenGate behind step fits = absurd step
sync_leads_plain drain SyncOpen behind step fits = leads_to drain SyncOpen behind (Some Run) step (refl, fits)
sync_leads_plain drain Run behind step fits = absurd step
sync_leads_plain drain SyncRuns behind step fits = leads_to drain SyncRuns behind (Some CloseGate) step (refl, fits)
sync_leads_plain drain CloseGate behind step fits = absurd step
sync_leads_plain drain SyncClose behind step fits = leads_to drain SyncClose behind None step (refl, tt)

pub sync_leads : (shelf : Option DrainValue) (now : NextStep) (behind : Option NextStep) → IsSyncStep now behind → IfSome shelf (λ drain. HasWritten drain.patch now) → IfSome shelf (λ drain. Leads drain now behind)
sync_leads None now behind step fits = tt
sync_leads (Some drain) now behind step fits = sync_leads_plain drain now behind step fits

gate_leads_plain : (drain : DrainValue) (byte : ℕ) (now : NextStep) (behind : Option NextStep) → IsGateStep byte now behind → HasWritten drain.patch now → Leads drain now behind
gate_leads_plain drain byte CreateLog behind step fits = absurd step
gate_leads_plain drain byte FirstPiece behind step fits = absurd step
gate_leads_plain drain byte (Piece written) behind step fits = absurd step
gate_leads_plain drain byte SyncBody behind step fits = absurd step
gate_leads_plain drain byte OpenGate behind step fits = leads_to drain OpenGate behind (Some SyncOpen) step.1 (refl, fits)
gate_leads_plain drain byte SyncOpen behind step fits = absurd step
gate_leads_plain drain byte Run behind step fits = absurd step
gate_leads_plain drain byte SyncRuns behind step fits = absurd step
gate_leads_plain drain byte CloseGate behind step fits = leads_to drain CloseGate behind (Some SyncClose) step.1 (refl, fits)
gate_leads_plain drain byte SyncClose behind step fits = absurd step

pub gate_leads : (shelf : Option DrainValue) (byte : ℕ) (now : NextStep) (behind : Option NextStep) → IsGateStep byte now behind → IfSome shelf (λ drain. HasWritten drain.patch now) → IfSome shelf (λ drain. Leads drain now behind)
gate_leads None byte now behind step fits = tt
gate_leads (Some drain) byte now behind step fits = gate_leads_plain drain byte now behind step fits

pub first_piece_leads : (shelf : Option DrainValue) (patch : PatchValue) (len count : ℕ) (out : List ℕ) (next : NextStep) → IfSome shelf (λ drain. patch ≡ drain.patch) → IsFirstPiece patch len count out → next ≡ behind_cells patch count
    → IfSome shelf (λ drain. Leads drain FirstPiece (Some next))
first_piece_leads None patch len count out next same piece behind = tt
first_piece_leads (Some drain) patch len count out next same piece behind =
    let is : IsFirstPiece drain.patch len count out = subst (λ (p : PatchValue). IsFirstPiece p len count out) same piece in
    let then_is : next ≡ behind_cells drain.patch count = behind ∙ ap (λ (p : PatchValue). behind_cells p count) same in (
      record { written = count; within = is.within; more = is.full; is = ap (λ (n : NextStep). Some n) then_is },
      subst (HasWritten drain.patch) (sym then_is) (cells_written (count == length drain.patch.cells) drain.patch count refl is.within is.fit),
    )

-- How the log of a disk in memory goes on, and what a crash may then leave.
use Rattle.std.proofs.Common.{◌≡◌, ◌≢◌, inl, inr, ⊎_elim, ℕ, suc, ◌+◌, ◌≤◌, Bool, true, false, List, [], ◌∷◌, ◌++◌, length, take, drop, Option, None, Some, IsSomeAnd, refl, sym, ap, ap₂, ◌∙◌, subst, true≢false, arith, take-append-drop}
use Rattle.std.specs.Prelude.{Decides, replicate, option_map, cond, bytes_eq, string_bytes, OnErr, OnOk, Result, Ok, Err}
use Rattle.std.proofs.lemmas.Slice.Eq.{bytes_eq-Decides}
use Rattle.std.proofs.lemmas.List.{length-replicate}
use Rattle.outside_io.specs.Crash.{Elapses, MayAll}
use Rattle.outside_io.specs.DiskLog.{undone, Outcomes, LeftSince, LogsRange, LogsFile}
use Rattle.outside_io.specs.declared.disk_log.DiskChange.{DiskChange}
use Rattle.outside_io.specs.declared.disk_log.DiskChange.TheVariants.{Wrote, Created, Synced}
use Rattle.outside_io.specs.declared.disk_log.OldRange.{OldRange}
use Rattle.outside_io.specs.declared.disk_log.OldFile.{OldFile}
use Rattle.outside_io.specs.declared.mem_disk.MemDisk.{MemDisk}
use Rattle.outside_io.specs.Image.{Image, SameImage, ReadsFile, IsWithinFile, ChangesOnly, Writes, Tears, put_over}
use Rattle.outside_io.specs.MemDisk.{disk_image, DiskCrashes}
use Rattle.outside_io.proofs.Known.{take_further}
use Rattle.outside_io.proofs.TornFiles.{front_kept, back_kept, written_tears}

-- one change more
elapses_push : (image new : Image) (log : List DiskChange) (change : DiskChange) → undone change new ≡ image
    → Elapses (length log) (suc (length log)) (LeftSince image log) (LeftSince new (change ∷ log)) (Outcomes new (change ∷ log))
elapses_push image new log change back = record {
  later = omega arith;
  nothing_else = λ t left le since. ⊎_elim (λ now. inr now) (λ earlier. inl (subst (λ (i : Image). LeftSince i log t left) back earlier.1)) since;
  keeps = λ t left le past. inr (le, subst (λ (i : Image). LeftSince i log t left) (sym back) past);
}

-- old bytes that are put back over a piece make the file as it was
put_back : (file piece bytes : List ℕ) (at : ℕ) → at + length piece ≤ length file → length bytes ≡ length piece → bytes ≡ take (length bytes) (drop at file)
    → put_over (put_over file at piece) at bytes ≡ file
put_back file piece bytes at fits long is =
    let behind : drop (at + length bytes) (put_over file at piece) ≡ drop (at + length bytes) file =
    rw long (back_kept file piece at fits) in
    ap₂ (λ front rest. front ++ bytes ++ rest) (front_kept file piece at fits) behind
    ∙ ap (λ old. take at file ++ old ++ drop (at + length bytes) file) is
    ∙ front_of file at (length bytes)
  where
    front_of : (file : List ℕ) (at count : ℕ) → take at file ++ take count (drop at file) ++ drop (at + count) file ≡ file
    front_of file at count = ap (λ front. front ++ drop (at + count) file) (sym (take_further file at count)) ∙ take-append-drop (at + count) file

-- one name beside the others
picked : {A : Type 0} (test : Bool) (name own : List ℕ) (here there old : A) → Decides test (name ≡ own) → (name ≡ own → here ≡ old) → (name ≢ own → there ≡ old)
    → cond test here there ≡ old
picked true name own here there old decides same other = same (decides.0 refl)
picked false name own here there old decides same other = other (λ is. true≢false (sym (decides.1 is)))

over_back : (file now : Option (List ℕ)) (piece bytes : List ℕ) (at : ℕ) → now ≡ option_map (λ f. put_over f at piece) file
    → IsSomeAnd file (λ f. at + length piece ≤ length f) → length bytes ≡ length piece → IsSomeAnd file (λ f. bytes ≡ take (length bytes) (drop at f))
    → option_map (λ f. put_over f at bytes) now ≡ file
over_back None now piece bytes at is place long old = absurd place
over_back (Some file) now piece bytes at is place long old = rw is (ap Some (put_back file piece bytes at place long old))

range_undone : (before after : Image) (range : OldRange) (piece : List ℕ) → Writes before after (string_bytes range.name) range.at piece
    → IsWithinFile (Some before) (string_bytes range.name) range.at (length piece) → length range.bytes.items ≡ length piece
    → ReadsFile (Some before) (string_bytes range.name) range.at range.bytes.items → undone (Wrote range) after ≡ before
range_undone before after range piece wrote place long old = λ i name. each name i
  where
    own : List ℕ
    own = string_bytes range.name

    back : Image
    back = λ name. option_map (λ file. put_over file range.at range.bytes.items) (after name)

    here : back own ≡ before own
    here = over_back (before own) (after own) piece range.bytes.items range.at wrote.0 place long old

    each : (name : List ℕ) → undone (Wrote range) after name ≡ before name
    each name = picked (bytes_eq name own) name own (back name) (after name) (before name) (bytes_eq-Decides name own)
        (λ is. subst (λ (n : List ℕ). back n ≡ before n) (sym is) here) (λ differs. wrote.1 name differs)

file_undone : (before after : Image) (old : OldFile) → ChangesOnly before after (string_bytes old.name)
    → option_map (λ file. file.items) old.file ≡ before (string_bytes old.name) → undone (Created old) after ≡ before
file_undone before after old only is = λ i name. each name i
  where
    own : List ℕ
    own = string_bytes old.name

    each : (name : List ℕ) → undone (Created old) after name ≡ before name
    each name = picked (bytes_eq name own) name own (option_map (λ file. file.items) old.file) (after name) (before name) (bytes_eq-Decides name own)
        (λ same. is ∙ ap before (sym same)) (λ differs. only name differs)

-- what reads may be left
now_left : (image : Image) (log : List DiskChange) → Outcomes image log image
now_left image [] = λ name. refl
now_left image (Synced ∷ older) = λ name. refl
now_left image (Wrote range ∷ older) = inl (λ name. refl)
now_left image (Created old ∷ older) = inl (λ name. refl)

same_path : (before after : Image) → SameImage before after → after ≡ before
same_path before after same = λ i name. same name i

-- one step behind what a crash might have left
abbrev Step : (Image → Image → Type 0) → Image → List DiskChange → Image → Type 0
Step step image log left = (before : Image) × Outcomes image log before × step before left

stepped : (step : Image → Image → Type 0) (image new left : Image) (log : List DiskChange) → step image new → SameImage new left → Step step image log left
stepped step image new left log here same = (image, now_left image log, subst (step image) (sym (same_path new left same)) here)

-- a range was logged, and then written
range_crashes : (old new : MemDisk) (range : OldRange) → undone (Wrote range) (disk_image new) ≡ disk_image old → new.log ≡ Wrote range ∷ old.log
    → Tears (disk_image old) (disk_image new) (string_bytes range.name) range.at (length range.bytes.items)
    → DiskCrashes (λ before after. Tears before after (string_bytes range.name) range.at (length range.bytes.items)) old new
range_crashes old new range back logged here =
    let step : Image → Image → Type 0 = λ before after. Tears before after (string_bytes range.name) range.at (length range.bytes.items) in
    let pushed : DiskCrashes step old (record new { log = Wrote range ∷ old.log }) = record {
      follows = λ left now. ⊎_elim (λ same. stepped step (disk_image old) (disk_image new) left old.log here same)
          (λ torn. (torn.0, subst (λ (i : Image). Outcomes i old.log torn.0) back torn.1, torn.2)) now;
      time = elapses_push (disk_image old) (disk_image new) old.log (Wrote range) back;
    } in
    subst (λ (log : List DiskChange). DiskCrashes step old (record new { log = log })) (sym logged) pushed

-- each tear of what a crash might have left may be left
range_may : (x y : Image) (p q : List DiskChange) (range : OldRange) → undone (Wrote range) y ≡ x → q ≡ Wrote range ∷ p
    → MayAll (λ before after. Tears before after (string_bytes range.name) range.at (length range.bytes.items)) (Outcomes x p) (Outcomes y q)
range_may x y p q range back logged = λ before left was torn.
    subst (λ (log : List DiskChange). Outcomes y log left) (sym logged) (inr (before, subst (λ (i : Image). Outcomes i p before) (sym back) was, torn))

pub write_may : (x y : Image) (p q : List DiskChange) (name piece : List ℕ) (at : ℕ) → LogsRange x name at (length piece) p q → Writes x y name at piece → IsWithinFile (Some x) name at (length piece)
    → MayAll (λ before after. Tears before after name at (length piece)) (Outcomes x p) (Outcomes y q)
write_may x y p q name piece at log wrote place =
    let back : undone (Wrote log.range) y ≡ x =
    range_undone x y log.range piece (rw log.named (rw log.place wrote)) (rw log.named (rw log.place place)) log.long
    (rw log.named (rw log.place log.bytes)) in
    rw (sym log.named) (rw (sym log.place) (rw (sym log.long) (range_may x y p q log.range back log.logged)))

pub write_crashes : (old new : MemDisk) (name piece : List ℕ) (at : ℕ) → LogsRange (disk_image old) name at (length piece) old.log new.log
    → Writes (disk_image old) (disk_image new) name at piece → IsWithinFile (Some (disk_image old)) name at (length piece)
    → DiskCrashes (λ before after. Tears before after name at (length piece)) old new
write_crashes old new name piece at log wrote place =
    let back : undone (Wrote log.range) (disk_image new) ≡ disk_image old =
    range_undone (disk_image old) (disk_image new) log.range piece (rw log.named (rw log.place wrote)) (rw log.named (rw log.place place)) log.long
    (rw log.named (rw log.place log.bytes)) in
    let here : Tears (disk_image old) (disk_image new) name at (length piece) = written_tears (disk_image old) (disk_image new) name at piece wrote place in
    rw (sym log.named) (rw (sym log.place) (rw (sym log.long)
    (range_crashes old new log.range back log.logged (rw log.named (rw log.place (rw log.long here))))))

file_crashes : (old new : MemDisk) (made : OldFile) → undone (Created made) (disk_image new) ≡ disk_image old → new.log ≡ Created made ∷ old.log
    → ChangesOnly (disk_image old) (disk_image new) (string_bytes made.name)
    → DiskCrashes (λ before after. ChangesOnly before after (string_bytes made.name)) old new
file_crashes old new made back logged here =
    let step : Image → Image → Type 0 = λ before after. ChangesOnly before after (string_bytes made.name) in
    let pushed : DiskCrashes step old (record new { log = Created made ∷ old.log }) = record {
      follows = λ left now. ⊎_elim (λ same. stepped step (disk_image old) (disk_image new) left old.log here same)
          (λ other. (other.0, subst (λ (i : Image). Outcomes i old.log other.0) back other.1, other.2)) now;
      time = elapses_push (disk_image old) (disk_image new) old.log (Created made) back;
    } in
    subst (λ (log : List DiskChange). DiskCrashes step old (record new { log = log })) (sym logged) pushed

file_may : (x y : Image) (p q : List DiskChange) (made : OldFile) → undone (Created made) y ≡ x → q ≡ Created made ∷ p
    → MayAll (λ before after. ChangesOnly before after (string_bytes made.name)) (Outcomes x p) (Outcomes y q)
file_may x y p q made back logged = λ before left was only.
    subst (λ (log : List DiskChange). Outcomes y log left) (sym logged) (inr (before, subst (λ (i : Image). Outcomes i p before) (sym back) was, only))

pub create_may : (x y : Image) (p q : List DiskChange) (name : List ℕ) → LogsFile x name p q → ChangesOnly x y name
    → MayAll (λ before after. ChangesOnly before after name) (Outcomes x p) (Outcomes y q)
create_may x y p q name log only =
    let back : undone (Created log.made) y ≡ x = file_undone x y log.made (rw log.named only) (rw log.named log.file) in
    rw (sym log.named) (file_may x y p q log.made back log.logged)

pub create_crashes : (old new : MemDisk) (name : List ℕ) → LogsFile (disk_image old) name old.log new.log → ChangesOnly (disk_image old) (disk_image new) name
    → DiskCrashes (λ before after. ChangesOnly before after name) old new
create_crashes old new name log only =
    let back : undone (Created log.made) (disk_image new) ≡ disk_image old =
    file_undone (disk_image old) (disk_image new) log.made (rw log.named only) (rw log.named log.file) in
    rw (sym log.named) (file_crashes old new log.made back log.logged (rw log.named only))

-- a sync was logged
pub sync_crashes : (old new : MemDisk) → disk_image new ≡ disk_image old → new.log ≡ Synced ∷ old.log → DiskCrashes SameImage old new
sync_crashes old new same logged =
    let pushed : DiskCrashes SameImage old (record new { log = Synced ∷ old.log }) = record {
      follows = λ left now. stepped SameImage (disk_image old) (disk_image new) left old.log (λ name. ap (λ (image : Image). image name) same) now;
      time = elapses_push (disk_image old) (disk_image new) old.log Synced same;
    } in
    subst (λ (log : List DiskChange). DiskCrashes SameImage old (record new { log = log })) (sym logged) pushed

-- neither files nor log changed
pub same_crashes : (old new : MemDisk) (step : Image → Image → Type 0) → ((image : Image) → step image image) → SameImage (disk_image old) (disk_image new)
    → new.log ≡ old.log → DiskCrashes step old new
same_crashes old new step still same logged = record {
  follows = λ left now. (left, subst (λ (log : List DiskChange). Outcomes (disk_image old) log left) logged (subst (λ (i : Image). Outcomes i new.log left) files now), still left);
  time = record {
    later = omega (arith, ap length logged);
    nothing_else = λ t left le since. inl (subst (λ (log : List DiskChange). LeftSince (disk_image old) log t left) logged (subst (λ (i : Image). LeftSince i new.log t left) files since));
    keeps = λ t left le past. subst (λ (i : Image). LeftSince i new.log t left) (sym files) (subst (λ (log : List DiskChange). LeftSince (disk_image old) log t left) (sym logged) past);
  };
}
  where
    files : disk_image new ≡ disk_image old
    files = same_path (disk_image old) (disk_image new) same

-- a range was logged, and then filled with one byte
pub tear_crashes : (old new : MemDisk) (name : List ℕ) (at count byte : ℕ) → LogsRange (disk_image old) name at count old.log new.log
    → Writes (disk_image old) (disk_image new) name at (replicate count byte) → IsWithinFile (Some (disk_image old)) name at count
    → DiskCrashes (λ before after. Tears before after name at count) old new
tear_crashes old new name at count byte log wrote place =
    let long = length-replicate count byte in
    rw (sym long) (write_crashes old new name (replicate count byte) at (rw long log) wrote (rw long place))

-- what holds of every end holds of each
pub each_ok : {T E P : Type 0} (r : Result T E) → P → OnOk r P
each_ok (Ok x) holds = holds
each_ok (Err e) holds = tt

pub each_err : {T E P : Type 0} (r : Result T E) → P → OnErr r P
each_err (Ok x) holds = tt
each_err (Err e) holds = holds

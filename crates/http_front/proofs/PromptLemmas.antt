-- Replies in time.
use Rattle.std.proofs.Common.{◌≡◌, ◌∙◌, ℕ, List, [], ◌∷◌, ◌++◌, map, Option, refl, sym, ap, subst, append-nil, append_assoc}
use Rattle.std.specs.Prelude.{All}
use Rattle.std.specs.Io.KnownBytes.{Consumes}
use Rattle.std.specs.Option.{ForSome}
use Rattle.std.proofs.lemmas.List.{map-append}
use Rattle.std.proofs.lemmas.List.Elements.{All-nil, All-push}
use Rattle.http_wire.specs.Cuts.{Awaits}
use Rattle.http_front.specs.Links.{Serves}
use Rattle.http_front.specs.Origin.{At, Origin}
use Rattle.http_front.specs.Prompt.{AnswersInTime, AreInRow, IsAnswered, ReadAt, read_at}
use Rattle.http_front.specs.Standing.{Reached}
use Rattle.read_trace.specs.declared.reads.ReadNote.{ReadNote}
use Rattle.http_front.proofs.EndLemmas.{serves_of}

-- one more read behind these
row_more : (reads : List ReadAt) (read : ReadAt) (left left1 : Option (List ℕ)) → AreInRow left reads left1 → read.left ≡ left1 → AreInRow left (reads ++ read ∷ []) read.left'
row_more [] read left left1 same is = (is ∙ same, refl)
row_more (first ∷ reads) read left left1 row is = (row.0, row_more reads read first.left' left1 row.1 is)

-- what was left does not change behind a read
row_still : (reads : List ReadAt) (left left1 left2 : Option (List ℕ)) → left2 ≡ left1 → AreInRow left reads left1 → AreInRow left reads left2
row_still reads left left1 left2 same row = subst (AreInRow left reads) (sym same) row

-- nothing was read yet
pub in_time_start : {L : Type 0} (told wrote : L → Option (List ℕ)) (w : Origin) (left : Option (List ℕ)) (from : At) (notes : List (ReadNote L)) → AnswersInTime told wrote w left left from notes notes
in_time_start told wrote w left from notes = record {
  made = [];
  noted = sym (append-nil notes);
  row = refl;
  each = All-nil (IsAnswered w left from);
}

-- what stands where a link is read on
pub answered : (w : Origin) (left left1 kept : Option (List ℕ)) (from to : At) (count : ℕ) (read : ReadAt) → Reached w left from count left1 kept to → ForSome kept Awaits
    → read.left ≡ left1 → read.written ≡ to.written → IsAnswered w left from read
answered w left left1 kept from to count read r waits is same = record {
  taken = r.taken;
  consumed = subst (λ (l : Option (List ℕ)). Consumes left l r.taken) (sym is) r.consumed;
  items = r.served.items;
  whole = (kept, (r.served.hands, waits));
  who = to.caller;
  serves = subst (λ (written : Option (List ℕ)). Serves w r.served.items from (record { caller = to.caller; written = written })) (sym same)
      (serves_of w from to r.taken kept r.served);
}

-- one more read
pub in_time_more : {L : Type 0} (told wrote : L → Option (List ℕ)) (w : Origin) (left left1 left2 : Option (List ℕ)) (from : At) (old mid new : List (ReadNote L)) (note : ReadNote L)
    → AnswersInTime told wrote w left left1 from old mid → told note.before.value ≡ left1 → left2 ≡ told note.after.value → new ≡ mid ++ note ∷ []
    → IsAnswered w left from (read_at told wrote note) → AnswersInTime told wrote w left left2 from old new
in_time_more {L} told wrote w left left1 left2 from old mid new note before is is' all one =
    let more : map (read_at told wrote) (before.made ++ note ∷ []) ≡ map (read_at told wrote) before.made ++ read_at told wrote note ∷ [] = map-append (read_at told wrote) before.made (note ∷ []) in record {
      made = before.made ++ note ∷ [];
      noted = all ∙ (ap (λ (ns : List (ReadNote L)). ns ++ note ∷ []) before.noted ∙ append_assoc old before.made (note ∷ []));
      row = subst (λ (reads : List ReadAt). AreInRow left reads left2) (sym more)
          (row_still (map (read_at told wrote) before.made ++ read_at told wrote note ∷ []) left (told note.after.value) left2 is'
          (row_more (map (read_at told wrote) before.made) (read_at told wrote note) left left1 before.row is));
      each = subst (All (IsAnswered w left from)) (sym more) (All-push (IsAnswered w left from) (map (read_at told wrote) before.made) (read_at told wrote note) before.each one);
    }

-- what was left is as it was behind the reads
pub in_time_still : {L : Type 0} (told wrote : L → Option (List ℕ)) (w : Origin) (left left1 left2 : Option (List ℕ)) (from : At) (old new : List (ReadNote L)) → left2 ≡ left1
    → AnswersInTime told wrote w left left1 from old new → AnswersInTime told wrote w left left2 from old new
in_time_still told wrote w left left1 left2 from old new same before = record {
  made = before.made;
  noted = before.noted;
  row = row_still (map (read_at told wrote) before.made) left left1 left2 same before.row;
  each = before.each;
}

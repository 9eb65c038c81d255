-- When the replies to a link are written.
use Rattle.std.specs.Prelude.{◌≡◌, ℕ, List, [], ◌∷◌, ◌++◌, All, Option, map}
use Rattle.std.specs.Io.KnownBytes.{Consumes}
use Rattle.http_wire.specs.Requests.{Item}
use Rattle.http_front.specs.Links.{AreWholeIn, Serves}
use Rattle.http_front.specs.Origin.{At, Caller, Origin}
use Rattle.read_trace.specs.declared.reads.ReadNote.{ReadNote}

-- What a link told at a read: what was left of it before and behind it, and what was written to it before.
pub record ReadAt : Type 0 where
  pub left : Option (List ℕ)
  pub left' : Option (List ℕ)
  pub written : Option (List ℕ)

abbrev pub read_at : {L : Type 0} → (L → Option (List ℕ)) → (L → Option (List ℕ)) → ReadNote L → ReadAt
read_at told wrote note = record {
  left = told note.before.value;
  left' = told note.after.value;
  written = wrote note.before.value;
}

-- At a read of a link, of which so much was left at first, all requests that are whole in what had come had their replies.
pub record IsAnswered (w : Origin) (left : Option (List ℕ)) (from : At) (read : ReadAt) : Type 0 where
  pub taken : List ℕ
  pub consumed : Consumes left read.left taken
  pub items : List Item
  pub whole : AreWholeIn taken items
  pub who : Caller
  pub serves : Serves w items from (record { caller = who; written = read.written })

-- reads one behind the other: nothing is taken between them
abbrev pub AreInRow : Option (List ℕ) → List ReadAt → Option (List ℕ) → Type 0
AreInRow left [] left' = left' ≡ left
AreInRow left (read ∷ reads) left' = (read.left ≡ left) × AreInRow read.left' reads left'

-- All that was taken of a link was taken by the reads that are noted, and at each of them all requests that are whole in what had come had their replies.
pub record AnswersInTime {L : Type 0} (told wrote : L → Option (List ℕ)) (w : Origin) (left left' : Option (List ℕ)) (from : At) (old new : List (ReadNote L)) : Type 0 where
  pub made : List (ReadNote L)
  pub noted : new ≡ old ++ made
  pub row : AreInRow left (map (read_at told wrote) made) left'
  pub each : All (IsAnswered w left from) (map (read_at told wrote) made)

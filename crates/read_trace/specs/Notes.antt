-- What is noted of a read.
use Rattle.std.specs.Prelude.{◌≡◌, List, [], ◌∷◌, ◌++◌}
use Rattle.read_trace.specs.declared.reads.ReadNote.{ReadNote}

-- A read of a link, which was so before and is so now, is noted behind those before it.
pub record NotesRead {L : Type 0} (before after : L) (old new : List (ReadNote L)) : Type 0 where
  pub note : ReadNote L
  pub was : note.before.value ≡ before
  pub is : note.after.value ≡ after
  pub noted : new ≡ old ++ note ∷ []

-- A journal in a room that was taken at the start.
use Rattle.std.specs.Global.{Vec}
use Rattle.std.specs.Vec.{vec_capacity, vec_len}
use Rattle.std.specs.Prelude.{◌≡◌, ◌≤◌, ℕ, ◌+◌, ◌-◌, Bool, true, false, ◌&&◌, not, nat_le, List, ◌++◌, length, Option, Some, None, if◌then◌else◌}
use Rattle.carbon_history.specs.declared.entry.Entry.{Entry}
use Rattle.journal_form.specs.Form.{HeadValue, ReplyValue, entry_bytes, head_bytes, reply_bytes}

-- What contracts see of a journal: how many bytes it may have, those that it has, and whether an entry was left out.
pub record JournalValue : Type 0 where
  pub room : ℕ
  pub bytes : List ℕ
  pub is_cut : Bool

-- a new journal of a room: its head alone, where the room has place for it
unfoldable pub new_journal : ℕ → HeadValue → Option JournalValue
new_journal room head =
    if nat_le (length (head_bytes head)) room then Some (record { room = room; bytes = head_bytes head; is_cut = false }) else None

-- whether so many bytes still go into a journal: it is not cut, and there is place
abbrev pub has_place : JournalValue → ℕ → Bool
has_place journal count = not journal.is_cut && nat_le count (journal.room - length journal.bytes)

-- whether a record still goes into a journal
abbrev pub takes_in : JournalValue → List ℕ → Bool
takes_in journal text = not journal.is_cut && nat_le (length journal.bytes + length text) journal.room

-- the journal behind a push of an entry: where that does not go in, it is cut
unfoldable pub with_entry : JournalValue → Entry → JournalValue
with_entry journal entry =
    if takes_in journal (entry_bytes entry) then record journal { bytes = journal.bytes ++ entry_bytes entry } else record journal { is_cut = true }

-- the journal behind a push of a reply: where that does not go in, all stays
unfoldable pub with_reply : JournalValue → ReplyValue → JournalValue
with_reply journal reply =
    if takes_in journal (reply_bytes reply) then record journal { bytes = journal.bytes ++ reply_bytes reply } else journal

-- a list of bytes takes so many more without more memory
abbrev pub HasRoom : Vec ℕ → ℕ → Type 0
HasRoom out count = vec_len out + count ≤ vec_capacity out

-- the new list is the old one with this text behind it, and has no less room in all
pub record Appends (old new : Vec ℕ) (text : List ℕ) : Type 0 where
  pub bytes : new.items ≡ old.items ++ text
  pub long : vec_len new ≡ vec_len old + length text
  pub capacity : vec_capacity old ≤ vec_capacity new

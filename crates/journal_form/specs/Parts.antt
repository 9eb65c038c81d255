-- What the parts of a head or a record say, without where they lie in memory.
use Rattle.std.specs.Prelude.{◌≡◌, ⊤, ℕ, List, None}
use Rattle.carbon_history.specs.declared.entry.Entry.{Entry}
use Rattle.carbon_history.specs.declared.entry.Entry.TheVariants as entry
use Rattle.metric_path.specs.Path.{path_fault}
use Rattle.journal_form.specs.declared.parts.EntryParts.{EntryParts}
use Rattle.journal_form.specs.declared.parts.EntryParts.TheVariants.{Put, Drain, Ask, Fault}
use Rattle.journal_form.specs.declared.parts.HeadParts.{HeadParts}
use Rattle.journal_form.specs.declared.parts.ReplyParts.{ReplyParts}
use Rattle.journal_form.specs.declared.parts.RecordParts.{RecordParts}
use Rattle.journal_form.specs.declared.parts.RecordParts.TheVariants as parts
use Rattle.journal_form.specs.Form.{HeadValue, ReplyValue, RecordValue, Entered, Replied}

-- the entry with these parts
abbrev pub entry_of : EntryParts → Entry
entry_of (Put pass path time value end) = entry.Put pass path.now time value end
entry_of (Drain pass path now) = entry.Drain pass path.now now
entry_of (Ask pass number try now) = entry.Ask pass number try now
entry_of (Fault pass class) = entry.Fault pass class

abbrev pub head_of : HeadParts → HeadValue
head_of head = record { limit = head.limit; order = head.order; schemas = head.schemas.now; aggregations = head.aggregations.now }

abbrev pub reply_of : ReplyParts → ReplyValue
reply_of reply = record { pass = reply.pass; number = reply.number; query = reply.query.now; body = reply.body.now; text = reply.text.now }

abbrev pub reply_with : ℕ → ℕ → List ℕ → List ℕ → List ℕ → ReplyValue
reply_with pass number query body text = record { pass = pass; number = number; query = query; body = body; text = text }

abbrev pub record_of : RecordParts → RecordValue
record_of (parts.Entry given) = Entered (entry_of given)
record_of (parts.Reply given) = Replied (reply_of given)

-- the path of an entry, where it has one, is legal
abbrev pub HasLegalPath : Entry → Type 0
HasLegalPath (entry.Put pass path time value end) = path_fault path ≡ None
HasLegalPath (entry.Drain pass path now) = path_fault path ≡ None
HasLegalPath (entry.Ask pass number try now) = ⊤
HasLegalPath (entry.Fault pass class) = ⊤

-- the same of a record that is an entry
abbrev pub HasLegalRecord : RecordValue → Type 0
HasLegalRecord (Entered given) = HasLegalPath given
HasLegalRecord (Replied given) = ⊤

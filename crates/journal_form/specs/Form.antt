-- A journal as bytes: a head, and then one record behind the other. All numbers are big-endian.
use Rattle.std.specs.Prelude.{◌≡◌, ℕ, ℤ, ◌<◌, ◌^◌, List, [], ◌∷◌, ◌++◌, length, None, codes}
use Rattle.std.specs.Int.{w16, w32, w64, to_be_bytes}
use Rattle.carbon_history.specs.declared.entry.Entry.{Entry}
use Rattle.carbon_history.specs.declared.entry.Entry.TheVariants.{Put, Drain, Ask, Fault}
use Rattle.carbon_history.specs.declared.entry.PutEnd.{PutEnd}
use Rattle.carbon_history.specs.declared.entry.PutEnd.TheVariants.{Stored, Replaced, Full}
use Rattle.fixed_num.specs.Milli.{IsMilli, milli_bytes}
use Rattle.metric_path.specs.Path.{path_fault}
use Rattle.journal_form.specs.declared.record.JournalHead.{JournalHead}
use Rattle.journal_form.specs.declared.record.Reply.{Reply}
use Rattle.journal_form.specs.declared.record.Record.{Record}
use Rattle.journal_form.specs.declared.record.Record.TheVariants as kept

-- ---- what is written

-- a head without where it lies in memory
pub record HeadValue : Type 0 where
  pub limit : ℕ
  pub order : ℕ
  pub schemas : List ℕ
  pub aggregations : List ℕ

abbrev pub head_value : JournalHead → HeadValue
head_value head = record { limit = head.limit; order = head.order; schemas = head.schemas.items; aggregations = head.aggregations.items }

-- what a question was answered, without where it lies in memory
pub record ReplyValue : Type 0 where
  pub pass : ℕ
  pub number : ℕ
  pub query : List ℕ
  pub body : List ℕ
  pub text : List ℕ

abbrev pub reply_value : Reply → ReplyValue
reply_value reply = record { pass = reply.pass; number = reply.number; query = reply.query.items; body = reply.body.items; text = reply.text.items }

-- a record: an entry of the history, or a reply
pub data RecordValue : Type 0 where
  Entered : Entry → RecordValue
  Replied : ReplyValue → RecordValue

abbrev pub record_value : Record → RecordValue
record_value (kept.Entry entry) = Entered entry
record_value (kept.Reply reply) = Replied (reply_value reply)

-- ---- its bytes

-- a text behind its length, in four bytes
abbrev pub text_bytes : List ℕ → List ℕ
text_bytes text = to_be_bytes w32 (length text) ++ text

-- The first eight bytes, the limit, the order and the two files of rules. An order is 0 for max, 1 for sorted, 2 for timesorted, 3 for naive.
unfoldable pub head_bytes : HeadValue → List ℕ
head_bytes head = codes "carbonj1" ++ (to_be_bytes w64 head.limit ++ (head.order ∷ (text_bytes head.schemas ++ text_bytes head.aggregations)))

abbrev pub end_byte : PutEnd → ℕ
end_byte Stored = 0
end_byte Replaced = 1
end_byte Full = 2

-- a kind, a pass, a path behind its length in two bytes, and what follows
abbrev pub behind_path : ℕ → ℕ → List ℕ → List ℕ → List ℕ
behind_path kind pass path rest = kind ∷ (to_be_bytes w32 pass ++ (to_be_bytes w16 (length path) ++ (path ++ rest)))

-- kind 1: the pass, the path, the time, the value and the outcome
unfoldable pub put_bytes : ℕ → List ℕ → ℕ → ℤ → PutEnd → List ℕ
put_bytes pass path time value end = behind_path 1 pass path (to_be_bytes w32 time ++ (milli_bytes value ++ end_byte end ∷ []))

-- kind 2: the pass, the path and the moment
unfoldable pub drain_bytes : ℕ → List ℕ → ℕ → List ℕ
drain_bytes pass path now = behind_path 2 pass path (to_be_bytes w64 now)

-- kind 3: the pass, the question's number, the try and the moment
unfoldable pub ask_bytes : ℕ → ℕ → ℕ → ℕ → List ℕ
ask_bytes pass number try now = 3 ∷ (to_be_bytes w32 pass ++ (to_be_bytes w64 number ++ (to_be_bytes w32 try ++ to_be_bytes w64 now)))

-- kind 4: the pass and the class
unfoldable pub fault_bytes : ℕ → ℕ → List ℕ
fault_bytes pass class = 4 ∷ (to_be_bytes w32 pass ++ to_be_bytes w32 class)

-- kind 5: the pass, the question's number, the query, the body and the text
unfoldable pub reply_bytes : ReplyValue → List ℕ
reply_bytes reply =
    5 ∷ (to_be_bytes w32 reply.pass ++ (to_be_bytes w64 reply.number ++ (text_bytes reply.query ++ (text_bytes reply.body ++ text_bytes reply.text))))

abbrev pub entry_bytes : Entry → List ℕ
entry_bytes (Put pass path time value end) = put_bytes pass path time value end
entry_bytes (Drain pass path now) = drain_bytes pass path now
entry_bytes (Ask pass number try now) = ask_bytes pass number try now
entry_bytes (Fault pass class) = fault_bytes pass class

abbrev pub record_bytes : RecordValue → List ℕ
record_bytes (Entered entry) = entry_bytes entry
record_bytes (Replied reply) = reply_bytes reply

-- ---- what can be written and read back: what the fields have room for, legal paths, and numbers that are values

pub record FitsHead (head : HeadValue) : Type 0 where
  pub limit : head.limit < 2 ^ 64
  pub order : head.order < 256
  pub schemas : length head.schemas < 2 ^ 32
  pub aggregations : length head.aggregations < 2 ^ 32

pub record FitsReply (reply : ReplyValue) : Type 0 where
  pub pass : reply.pass < 2 ^ 32
  pub number : reply.number < 2 ^ 64
  pub query : length reply.query < 2 ^ 32
  pub body : length reply.body < 2 ^ 32
  pub text : length reply.text < 2 ^ 32

pub record FitsPut (pass : ℕ) (path : List ℕ) (time : ℕ) (value : ℤ) : Type 0 where
  pub pass_fits : pass < 2 ^ 32
  pub legal : path_fault path ≡ None
  pub time_fits : time < 2 ^ 32
  pub value_fits : IsMilli value

pub record FitsDrain (pass : ℕ) (path : List ℕ) (now : ℕ) : Type 0 where
  pub pass_fits : pass < 2 ^ 32
  pub legal : path_fault path ≡ None
  pub now_fits : now < 2 ^ 64

pub record FitsAsk (pass number try now : ℕ) : Type 0 where
  pub pass_fits : pass < 2 ^ 32
  pub number_fits : number < 2 ^ 64
  pub try_fits : try < 2 ^ 32
  pub now_fits : now < 2 ^ 64

abbrev pub FitsEntry : Entry → Type 0
FitsEntry (Put pass path time value end) = FitsPut pass path time value
FitsEntry (Drain pass path now) = FitsDrain pass path now
FitsEntry (Ask pass number try now) = FitsAsk pass number try now
FitsEntry (Fault pass class) = (pass < 2 ^ 32) × (class < 2 ^ 32)

abbrev pub FitsRecord : RecordValue → Type 0
FitsRecord (Entered entry) = FitsEntry entry
FitsRecord (Replied reply) = FitsReply reply

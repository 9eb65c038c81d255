-- A journal read from its bytes, from the left. What is read stands beside the bytes behind it; there is none where the bytes begin with none.
-- Only the form is read: whether moments are legal, a class is one of 16 and the entries follow from one another is for who replays them.
use Rattle.std.specs.Prelude.{◌≡◌, ◌≢◌, ℕ, ℤ, ◌-◌, ◌==◌, nat_lt, List, [], ◌∷◌, length, take, drop, Option, Some, None, option_map, Result, Ok, Err, if◌then◌else◌, codes}
use Rattle.std.specs.Option.{is_none}
use Rattle.std.specs.Int.{Width, w16, w32, w64, byte_len, from_be_bytes}
use Rattle.carbon_history.specs.declared.entry.Entry.TheVariants.{Put, Drain, Ask, Fault}
use Rattle.carbon_history.specs.declared.entry.PutEnd.{PutEnd}
use Rattle.carbon_history.specs.declared.entry.PutEnd.TheVariants.{Stored, Replaced, Full}
use Rattle.fixed_num.specs.Milli.{milli_of_bytes}
use Rattle.metric_path.specs.Path.{path_fault}
use Rattle.journal_form.specs.declared.record.FormFault.{FormFault}
use Rattle.journal_form.specs.declared.record.FormFault.TheVariants.{Unreadable, NoMemory}
use Rattle.journal_form.specs.Form.{HeadValue, RecordValue, Entered, Replied}

infixl 10 ◌>>=◌
abbrev pub ◌>>=◌ : {A B : Type 0} → Option A → (A → Option B) → Option B
(Some x) >>= f = f x
None >>= f = None

-- ---- fields

-- so many bytes
unfoldable pub piece_at : ℕ → List ℕ → Option (List ℕ × List ℕ)
piece_at count bytes = if nat_lt (length bytes) count then None else Some (take count bytes, drop count bytes)

abbrev pub number_at : Width → List ℕ → Option (ℕ × List ℕ)
number_at w bytes = if nat_lt (length bytes) (byte_len w) then None else Some (from_be_bytes w (take (byte_len w) bytes), drop (byte_len w) bytes)

-- one byte
unfoldable pub byte_at : List ℕ → Option (ℕ × List ℕ)
byte_at [] = None
byte_at (b ∷ rest) = Some (b, rest)

-- a text behind its length, in four bytes
unfoldable pub text_at : List ℕ → Option (List ℕ × List ℕ)
text_at bytes = do
  count ← number_at w32 bytes
  piece_at count.0 count.1

-- a legal path behind its length, in two bytes
unfoldable pub path_at : List ℕ → Option (List ℕ × List ℕ)
path_at bytes = do
  count ← number_at w16 bytes
  path ← piece_at count.0 count.1
  if is_none (path_fault path.0) then Some path else None

-- the 16 bytes of a value
unfoldable pub value_at : List ℕ → Option (ℤ × List ℕ)
value_at bytes = if nat_lt (length bytes) 16 then None else option_map (λ value. (value, drop 16 bytes)) (milli_of_bytes (take 16 bytes))

-- the outcome of a put
unfoldable pub end_of : ℕ → Option PutEnd
end_of b = if b == 0 then Some Stored else (if b == 1 then Some Replaced else (if b == 2 then Some Full else None))

unfoldable pub end_at : List ℕ → Option (PutEnd × List ℕ)
end_at bytes = do
  byte ← byte_at bytes
  option_map (λ end. (end, byte.1)) (end_of byte.0)

-- ---- the head

-- the first eight bytes as a number
abbrev pub mark : ℕ
mark = from_be_bytes w64 (codes "carbonj1")

unfoldable pub files_at : ℕ → ℕ → List ℕ → Option (HeadValue × List ℕ)
files_at limit order bytes = do
  schemas ← text_at bytes
  aggregations ← text_at schemas.1
  Some (record { limit = limit; order = order; schemas = schemas.0; aggregations = aggregations.0 }, aggregations.1)

unfoldable pub limit_at : List ℕ → Option (HeadValue × List ℕ)
limit_at bytes = do
  limit ← number_at w64 bytes
  order ← byte_at limit.1
  files_at limit.0 order.0 order.1

unfoldable pub head_at : List ℕ → Option (HeadValue × List ℕ)
head_at bytes = do
  first ← number_at w64 bytes
  if first.0 == mark then limit_at first.1 else None

-- ---- the records, behind their kind and their pass

unfoldable pub put_at : ℕ → List ℕ → Option (RecordValue × List ℕ)
put_at pass bytes = do
  path ← path_at bytes
  time ← number_at w32 path.1
  value ← value_at time.1
  end ← end_at value.1
  Some (Entered (Put pass path.0 time.0 value.0 end.0), end.1)

unfoldable pub drain_at : ℕ → List ℕ → Option (RecordValue × List ℕ)
drain_at pass bytes = do
  path ← path_at bytes
  now ← number_at w64 path.1
  Some (Entered (Drain pass path.0 now.0), now.1)

unfoldable pub ask_at : ℕ → List ℕ → Option (RecordValue × List ℕ)
ask_at pass bytes = do
  number ← number_at w64 bytes
  try ← number_at w32 number.1
  now ← number_at w64 try.1
  Some (Entered (Ask pass number.0 try.0 now.0), now.1)

unfoldable pub fault_at : ℕ → List ℕ → Option (RecordValue × List ℕ)
fault_at pass bytes = do
  class ← number_at w32 bytes
  Some (Entered (Fault pass class.0), class.1)

unfoldable pub reply_at : ℕ → List ℕ → Option (RecordValue × List ℕ)
reply_at pass bytes = do
  number ← number_at w64 bytes
  query ← text_at number.1
  body ← text_at query.1
  text ← text_at body.1
  Some (Replied (record { pass = pass; number = number.0; query = query.0; body = body.0; text = text.0 }), text.1)

-- the record of a kind and a pass
unfoldable pub kind_at : ℕ → ℕ → List ℕ → Option (RecordValue × List ℕ)
kind_at kind pass bytes =
    if kind == 1 then put_at pass bytes else
    (if kind == 2 then drain_at pass bytes else
    (if kind == 3 then ask_at pass bytes else
    (if kind == 4 then fault_at pass bytes else
    (if kind == 5 then reply_at pass bytes else None))))

unfoldable pub record_at : List ℕ → Option (RecordValue × List ℕ)
record_at bytes = do
  kind ← byte_at bytes
  pass ← number_at w32 kind.1
  kind_at kind.0 pass.0 pass.1

-- ---- with the length in place of the bytes behind

abbrev pub measured : {X : Type 0} → List ℕ → Option (X × List ℕ) → Option (X × ℕ)
measured bytes found = option_map (λ x. (x.0, length bytes - length x.1)) found

-- the head that the bytes begin with, and how many bytes it has
abbrev pub head_in : List ℕ → Option (HeadValue × ℕ)
head_in bytes = measured bytes (head_at bytes)

-- the record that the bytes begin with, and how many bytes it has
abbrev pub record_in : List ℕ → Option (RecordValue × ℕ)
record_in bytes = measured bytes (record_at bytes)

-- what is answered, seen by `see`: what is there, `Unreadable` where there is none, and `NoMemory` only where there is one
abbrev pub Answers : {X Y : Type 0} → (X → Y) → Result X FormFault → Option Y → Type 0
Answers see (Ok x) found = found ≡ Some (see x)
Answers see (Err Unreadable) found = found ≡ None
Answers see (Err NoMemory) found = found ≢ None

-- What a reader of pickles does with the opcodes of plain values: it keeps a stack of values and marks.
use Rattle.std.specs.Prelude.{◌≡◌, ℕ, zero, suc, ◌==◌, true, false, nat_le, List, [], ◌∷◌, length, take, drop, Option, Some, None, option_map, if◌then◌else◌}
use Rattle.std.specs.Int.{w32, w64, from_le_bytes, from_be_bytes, cast_signed}
use Rattle.pickle_form.specs.Value.{FitsPickle, Value, Items, Members, none, boolean, whole, double, text, sequence, mapping, no_items, item, no_members, member}
use Rattle.pickle_form.specs.Pickle.{pickled}

pub data Entry : Type 0 where
  mark : Entry
  held : Value → Entry

-- what an opcode leads to: the value that is read, the bytes and the stack with which it goes on, or an error
pub data Turn : Type 0 where
  ends : Value → Turn
  goes : List ℕ → List Entry → Turn
  fails : Turn

-- ---- arguments

-- so many bytes, and those behind them
unfoldable pub argument : ℕ → List ℕ → Option (List ℕ × List ℕ)
argument count bytes = if nat_le count (length bytes) then Some (take count bytes, drop count bytes) else None

-- the value of an argument comes on the stack
abbrev pub pushed : (List ℕ → Value) → List Entry → Option (List ℕ × List ℕ) → Turn
pushed make stack None = fails
pushed make stack (Some (bytes, rest)) = goes rest (held (make bytes) ∷ stack)

-- a text behind its length
abbrev pub text_turn : List Entry → Option (List ℕ × List ℕ) → Turn
text_turn stack None = fails
text_turn stack (Some (size, rest)) = pushed text stack (argument (from_le_bytes w32 size) rest)

-- a whole number behind the number of its bytes, which is eight
abbrev pub long_turn : List Entry → List ℕ → Turn
long_turn stack [] = fails
long_turn stack (size ∷ rest) =
    if size == 8 then pushed (λ bytes. whole (cast_signed w64 (from_le_bytes w64 bytes))) stack (argument 8 rest) else fails

-- ---- sequences and mappings

-- the values above the highest mark, before others, and what is below it
abbrev pub above_mark : List Entry → Items → Option (Items × List Entry)
above_mark [] items = None
above_mark (mark ∷ stack) items = Some (items, stack)
above_mark (held value ∷ stack) items = above_mark stack (item value items)

abbrev pub with_items : Items → Items → Items
with_items no_items more = more
with_items (item value items) more = item value (with_items items more)

abbrev pub with_members : Members → Members → Members
with_members no_members more = more
with_members (member key value members) more = member key value (with_members members more)

-- keys and values in turn; a key is a text
abbrev pub members_of : Items → Option Members
members_of no_items = Some no_members
members_of (item (text key) (item value items)) = option_map (member key value) (members_of items)
members_of _ = None

-- items come to the sequence on the stack
abbrev pub appended : List ℕ → Option (Items × List Entry) → Turn
appended rest (Some (more, held (sequence items) ∷ stack)) = goes rest (held (sequence (with_items items more)) ∷ stack)
appended rest _ = fails

-- members come to the mapping on the stack
abbrev pub joined : List ℕ → Option Members → List Entry → Turn
joined rest (Some more) (held (mapping members) ∷ stack) = goes rest (held (mapping (with_members members more)) ∷ stack)
joined rest _ _ = fails

abbrev pub entered : List ℕ → Option (Items × List Entry) → Turn
entered rest None = fails
entered rest (Some (items, stack)) = joined rest (members_of items) stack

-- ---- opcodes

-- the value on top of the stack
abbrev pub top : List Entry → Turn
top (held value ∷ stack) = ends value
top _ = fails

-- an opcode, and what follows it
abbrev pub obeyed : ℕ → List ℕ → List Entry → Turn
obeyed code rest stack =
    if code == 46 then top stack else
    if code == 78 then goes rest (held none ∷ stack) else
    if code == 136 then goes rest (held (boolean true) ∷ stack) else
    if code == 137 then goes rest (held (boolean false) ∷ stack) else
    if code == 74 then pushed (λ bytes. whole (cast_signed w32 (from_le_bytes w32 bytes))) stack (argument 4 rest) else
    if code == 138 then long_turn stack rest else
    if code == 71 then pushed (λ bytes. double (from_be_bytes w64 bytes)) stack (argument 8 rest) else
    if code == 88 then text_turn stack (argument 4 rest) else
    if code == 40 then goes rest (mark ∷ stack) else
    if code == 93 then goes rest (held (sequence no_items) ∷ stack) else
    if code == 101 then appended rest (above_mark stack no_items) else
    if code == 125 then goes rest (held (mapping no_members) ∷ stack) else
    if code == 117 then entered rest (above_mark stack no_items) else
    fails

abbrev pub turn : List ℕ → List Entry → Turn
turn [] stack = fails
turn (code ∷ rest) stack = obeyed code rest stack

abbrev pub goes_on : (List ℕ → List Entry → Option Value) → Turn → Option Value
goes_on more (ends value) = Some value
goes_on more (goes rest stack) = more rest stack
goes_on more fails = None

-- What is read with so many opcodes at most. As many as there are bytes are always enough.
unfoldable pub run : ℕ → List ℕ → List Entry → Option Value
run zero bytes stack = None
run (suc opcodes) bytes stack = goes_on (run opcodes) (turn bytes stack)

-- the value behind `80 02`; what follows the end is left unread
abbrev pub reads : List ℕ → Option Value
reads (protocol ∷ (version ∷ bytes)) = if protocol == 128 then (if version == 2 then run (length bytes) bytes [] else None) else None
reads _ = None

-- ---- the law

abbrev pub PickleIsReadBack : Type 0
PickleIsReadBack = (value : Value) → FitsPickle value → reads (pickled value) ≡ Some value

-- The pickle of a value: protocol 2, without globals and without a memo.
use Rattle.std.specs.Prelude.{ℕ, ℤ, pos, negsuc, Bool, true, false, List, [], ◌∷◌, ◌++◌, ◌^◌, length, nat_lt, if◌then◌else◌}
use Rattle.std.specs.Int.{w32, w64, to_le_bytes, to_be_bytes, cast_unsigned}
use Rattle.pickle_form.specs.Value.{Value, Items, Members, none, boolean, whole, double, text, sequence, mapping, no_items, item, no_members, member}

-- whether 32 bits hold a number and its sign
abbrev pub is_narrow : ℤ → Bool
is_narrow (pos n) = nat_lt n (2 ^ 31)
is_narrow (negsuc n) = nat_lt n (2 ^ 31)

-- a whole number: `J` and four bytes, or `8a 08` and eight, low byte first in two's complement
unfoldable pub whole_code : ℤ → List ℕ
whole_code number =
    if is_narrow number then 74 ∷ to_le_bytes w32 (cast_unsigned w32 number)
    else 138 ∷ (8 ∷ to_le_bytes w64 (cast_unsigned w64 number))

-- a double: `G` and its eight bytes, high byte first
unfoldable pub double_code : ℕ → List ℕ
double_code bits = 71 ∷ to_be_bytes w64 bits

-- a text: `X`, the number of its bytes in four, low byte first, and the bytes
unfoldable pub text_code : List ℕ → List ℕ
text_code bytes = 88 ∷ (to_le_bytes w32 (length bytes) ++ bytes)

-- `N`, `88` and `89`
abbrev pub boolean_code : Bool → List ℕ
boolean_code true = 136 ∷ []
boolean_code false = 137 ∷ []

-- A sequence is `](`, its items and `e`; a mapping `}(`, its keys and values in turn and `u`.
abbrev mutual
  pub value_code : Value → List ℕ
  value_code none = 78 ∷ []
  value_code (boolean b) = boolean_code b
  value_code (whole number) = whole_code number
  value_code (double bits) = double_code bits
  value_code (text bytes) = text_code bytes
  value_code (sequence items) = 93 ∷ (40 ∷ (items_code items ++ 101 ∷ []))
  value_code (mapping members) = 125 ∷ (40 ∷ (members_code members ++ 117 ∷ []))

  pub items_code : Items → List ℕ
  items_code no_items = []
  items_code (item value items) = value_code value ++ items_code items

  pub members_code : Members → List ℕ
  members_code no_members = []
  members_code (member key value members) = text_code key ++ (value_code value ++ members_code members)

-- `80 02`, the value and `.`
abbrev pub pickled : Value → List ℕ
pickled value = 128 ∷ (2 ∷ (value_code value ++ 46 ∷ []))

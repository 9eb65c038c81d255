-- The values that a pickle of plain values holds.
use Rattle.std.specs.Prelude.{ℕ, ℤ, Bool, List, [], ◌∷◌, ◌<◌, ◌^◌, length, FitsSigned, ⊤}
use Rattle.std.specs.Int.{w64}

-- A text is its bytes in UTF-8, and a double the 64 bits of IEEE 754 binary64. A mapping keeps its members in order, with texts as keys.
mutual
  pub data Value : Type 0 where
    none : Value
    boolean : Bool → Value
    whole : ℤ → Value
    double : ℕ → Value
    text : List ℕ → Value
    sequence : Items → Value
    mapping : Members → Value

  pub data Items : Type 0 where
    no_items : Items
    item : Value → Items → Items

  pub data Members : Type 0 where
    no_members : Members
    member : List ℕ → Value → Members → Members

-- these values as items
abbrev pub row : List Value → Items
row [] = no_items
row (value ∷ values) = item value (row values)

-- a text whose length 32 bits hold
abbrev pub IsShort : List ℕ → Type 0
IsShort bytes = length bytes < 2 ^ 32

-- What a pickle can hold: texts are short, and 64 bits hold each number.
abbrev mutual
  pub FitsPickle : Value → Type 0
  FitsPickle none = ⊤
  FitsPickle (boolean b) = ⊤
  FitsPickle (whole number) = FitsSigned w64 number
  FitsPickle (double bits) = bits < 2 ^ 64
  FitsPickle (text bytes) = IsShort bytes
  FitsPickle (sequence items) = ItemsFit items
  FitsPickle (mapping members) = MembersFit members

  pub ItemsFit : Items → Type 0
  ItemsFit no_items = ⊤
  ItemsFit (item value items) = FitsPickle value × ItemsFit items

  pub MembersFit : Members → Type 0
  MembersFit no_members = ⊤
  MembersFit (member key value members) = IsShort key × FitsPickle value × MembersFit members

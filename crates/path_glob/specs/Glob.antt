-- What a glob says, and the paths that it fits.
use Rattle.std.specs.Prelude.{◌≡◌, ℕ, Bool, ◌&&◌, nat_le, IsTrue, ◌⊎◌, List, [], ◌∷◌, ◌++◌}
use Rattle.std.specs.List.{list_any}

-- the bytes from a first one to a last one: none where the first is greater
pub record Range : Type 0 where
  pub first : ℕ
  pub last : ℕ

-- The pieces that may stand within braces: a byte that stands for itself, `?`, `*`, and a list in brackets.
pub data Simple : Type 0 where
  Exact : ℕ → Simple
  AnyByte : Simple
  AnyRow : Simple
  OneOf : List Range → Simple

-- The pieces of a node: a simple one, or braces with their values, each a row of simple pieces.
pub data Piece : Type 0 where
  Plain : Simple → Piece
  Braces : List (List Simple) → Piece

abbrev pub is_within : ℕ → Range → Bool
is_within b range = nat_le range.first b && nat_le b range.last

-- A byte covers itself, `?` any one byte, `*` any row of bytes, and a list one byte of its ranges.
abbrev pub Covers : Simple → List ℕ → Type 0
Covers (Exact b) bytes = bytes ≡ b ∷ []
Covers AnyByte bytes = (b : ℕ) × bytes ≡ b ∷ []
Covers AnyRow bytes = Unit {0}
Covers (OneOf ranges) bytes = (b : ℕ) × (bytes ≡ b ∷ []) × IsTrue (list_any (is_within b) ranges)

-- Simple pieces in a row: the first covers a front of the bytes, and the others what follows it.
abbrev pub RowCovers : List Simple → List ℕ → Type 0
RowCovers [] bytes = bytes ≡ []
RowCovers (piece ∷ row) bytes =
    (front : List ℕ) × (rest : List ℕ) × (bytes ≡ front ++ rest) × Covers piece front × RowCovers row rest

-- one of the values covers the bytes
abbrev pub SomeCovers : List (List Simple) → List ℕ → Type 0
SomeCovers [] bytes = ⊥
SomeCovers (value ∷ values) bytes = RowCovers value bytes ⊎ SomeCovers values bytes

-- Braces cover what one of their values covers.
abbrev pub PieceCovers : Piece → List ℕ → Type 0
PieceCovers (Plain piece) bytes = Covers piece bytes
PieceCovers (Braces values) bytes = SomeCovers values bytes

-- The pieces of a node cover its bytes, in order.
abbrev pub NodeCovers : List Piece → List ℕ → Type 0
NodeCovers [] bytes = bytes ≡ []
NodeCovers (piece ∷ pieces) bytes =
    (front : List ℕ) × (rest : List ℕ) × (bytes ≡ front ++ rest) × PieceCovers piece front × NodeCovers pieces rest

-- A glob fits a path of as many nodes where the pieces of each of its nodes cover the path's node.
abbrev pub Fits : List (List Piece) → List (List ℕ) → Type 0
Fits [] [] = Unit {0}
Fits (pieces ∷ globs) (node ∷ nodes) = NodeCovers pieces node × Fits globs nodes
Fits _ _ = ⊥

-- What the parts of a glob's text say.
use Rattle.std.specs.Prelude.{◌≡◌, ℕ, ◌<◌, ◌==◌, Bool, true, false, List, [], ◌∷◌, ◌++◌, length, map, Option, Some, None}
use Rattle.std.specs.List.{All, list_any, slice_split}
use Rattle.path_glob.specs.Glob.{Simple, Exact, AnyByte, AnyRow, OneOf, Plain, Braces, is_within}
use Rattle.path_glob.specs.Reading.{members_of, pieces_of, ranges_of, row_after, row_of, values_of}
use Rattle.path_glob.specs.declared.cut.Cut.{Cut}
use Rattle.path_glob.specs.declared.cut.Braced.{Braced}
use Rattle.path_glob.specs.declared.cut.First.{First}
use Rattle.path_glob.specs.declared.cut.ByteSet.{ByteSet}
use Rattle.path_glob.specs.declared.cut.ByteSet.TheVariants.{One, Any, Members}
use Rattle.path_glob.specs.declared.cut.SimplePiece.{SimplePiece}
use Rattle.path_glob.specs.declared.cut.SimplePiece.TheVariants.{AnyRow as AnyRowRead, Byte}
use Rattle.path_glob.specs.declared.positions.FirstRange.{FirstRange}

-- no byte of the text is the mark
abbrev pub HasNone : ℕ → List ℕ → Type 0
HasNone mark text = All (λ b. (b == mark) ≡ false) text

-- The text before its first mark, and behind it.
abbrev pub Cuts : ℕ → List ℕ → Option Cut → Type 0
Cuts mark text None = HasNone mark text
Cuts mark text (Some cut) = (text ≡ cut.before.now ++ mark ∷ cut.after.now) × HasNone mark cut.before.now

-- The first of the parts that such marks separate.
abbrev pub PartsAt : ℕ → List ℕ → Option Cut → Type 0
PartsAt mark text None = slice_split (λ b. b == mark) text ≡ text ∷ []
PartsAt mark text (Some cut) =
    (slice_split (λ b. b == mark) text ≡ cut.before.now ∷ slice_split (λ b. b == mark) cut.after.now)
    × (length cut.after.now < length text)

-- the first braces of a node
abbrev pub BracedIn : List ℕ → Option Braced → Type 0
BracedIn node None = pieces_of node ≡ map Plain (row_of node)
BracedIn node (Some parts) =
    (pieces_of node ≡ map Plain (row_of parts.before.now) ++ Braces (values_of parts.inner.now) ∷ pieces_of parts.after.now)
    × (length parts.after.now < length node)

-- what a piece that was read says
abbrev pub simple_said : SimplePiece → Simple
simple_said AnyRowRead = AnyRow
simple_said (Byte (One b)) = Exact b
simple_said (Byte Any) = AnyByte
simple_said (Byte (Members members)) = OneOf (members_of members.now)

-- whether a byte is one of these
abbrev pub covers_byte : ByteSet → ℕ → Bool
covers_byte (One x) b = b == x
covers_byte Any b = true
covers_byte (Members members) b = list_any (is_within b) (members_of members.now)

-- the first piece of a row
abbrev pub PieceIn : List ℕ → Option First → Type 0
PieceIn row None = row_of row ≡ []
PieceIn row (Some first) =
    (row_of row ≡ simple_said first.piece ∷ row_of first.after.now) × (length first.after.now < length row)

-- the same of a row behind a `[`
abbrev pub ListIn : List ℕ → Option First → Type 0
ListIn text None = row_after [] text ≡ []
ListIn text (Some first) =
    (row_after [] text ≡ simple_said first.piece ∷ row_of first.after.now) × (length first.after.now < length text)

-- the first range of a list's members
abbrev pub RangeIn : List ℕ → Option FirstRange → Type 0
RangeIn members None = ranges_of members ≡ []
RangeIn members (Some found) =
    (ranges_of members ≡ record { first = found.first; last = found.last } ∷ ranges_of found.after.now)
    × (length found.after.now < length members)

-- What the text of a glob says. Dots separate its nodes, and commas the values of braces; a list in brackets
-- ends at the first `]`, and braces at the first `}`.
use Rattle.std.specs.Prelude.{ℕ, ◌==◌, ◌||◌, Bool, List, [], ◌∷◌, ◌++◌, map, if◌then◌else◌}
use Rattle.std.specs.List.{slice_split}
use Rattle.metric_path.specs.Path.{nodes_of}
use Rattle.path_glob.specs.Glob.{Range, Simple, Exact, AnyByte, AnyRow, OneOf, Piece, Plain, Braces}

abbrev pub is_comma : ℕ → Bool
is_comma b = b == 44

-- a byte that begins a piece which covers more than this byte
abbrev pub is_special : ℕ → Bool
is_special b = b == 42 || (b == 63 || (b == 91 || b == 123))

-- the bytes from the one to the other
abbrev pub range : ℕ → ℕ → Range
range a b = record { first = a; last = b }

-- the range of one byte
abbrev pub only : ℕ → Range
only b = range b b

-- The members of a list, read from the left: a byte, a `-` and a further byte are a range, and any other
-- byte is itself.
abbrev pub ranges_of : List ℕ → List Range
ranges_of (a ∷ dash ∷ b ∷ rest) =
    if dash == 45 then range a b ∷ ranges_of rest else only a ∷ ranges_of (dash ∷ b ∷ rest)
ranges_of (a ∷ b ∷ []) = only a ∷ only b ∷ []
ranges_of (a ∷ []) = only a ∷ []
ranges_of [] = []

-- A first `-` is itself, and begins no range.
abbrev pub members_of : List ℕ → List Range
members_of [] = []
members_of (b ∷ rest) = if b == 45 then only b ∷ ranges_of rest else ranges_of (b ∷ rest)

-- a byte outside brackets
abbrev pub simple_of : ℕ → Simple
simple_of b = if b == 42 then AnyRow else (if b == 63 then AnyByte else Exact b)

-- The simple pieces of a text without braces; behind a `[` the members come first.
abbrev mutual
  pub row_of : List ℕ → List Simple
  row_of [] = []
  row_of (b ∷ rest) = if b == 91 then row_after [] rest else simple_of b ∷ row_of rest

  pub row_after : List ℕ → List ℕ → List Simple
  row_after members [] = []
  row_after members (b ∷ rest) =
      if b == 93 then OneOf (members_of members) ∷ row_of rest else row_after (members ++ b ∷ []) rest

-- the values between braces
abbrev pub values_of : List ℕ → List (List Simple)
values_of inner = map row_of (slice_split is_comma inner)

-- The pieces of a node's text, of which the bytes `before` come before the text that is left and stand
-- outside braces; and the same behind a `{`, with the bytes `inner` between it and what is left. (A glob
-- closes its braces: only other texts come to the end within some.)
abbrev mutual
  pub pieces_from : List ℕ → List ℕ → List Piece
  pieces_from before [] = map Plain (row_of before)
  pieces_from before (b ∷ rest) =
      if b == 123 then pieces_within before [] rest else pieces_from (before ++ b ∷ []) rest

  pub pieces_within : List ℕ → List ℕ → List ℕ → List Piece
  pieces_within before inner [] = map Plain (row_of (before ++ 123 ∷ inner))
  pieces_within before inner (b ∷ rest) =
      if b == 125 then map Plain (row_of before) ++ Braces (values_of inner) ∷ pieces_from [] rest
      else pieces_within before (inner ++ b ∷ []) rest

-- the pieces of a node
abbrev pub pieces_of : List ℕ → List Piece
pieces_of node = pieces_from [] node

-- what the nodes of a glob say
abbrev pub globs_of : List ℕ → List (List Piece)
globs_of text = map pieces_of (nodes_of text)

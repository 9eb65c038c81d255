-- What globs fit, piece by piece from the left.
use Rattle.std.specs.Prelude.{◌≡◌, ℕ, IsTrue, ◌⊎◌, List, [], ◌∷◌, ◌++◌}
use Rattle.std.specs.List.{before_first, list_any}
use Rattle.metric_path.specs.Path.{nodes_of}
use Rattle.path_glob.specs.Glob.{Fits, is_within}
use Rattle.path_glob.specs.Parts.{HasNone}
use Rattle.path_glob.specs.Reading.{globs_of, is_special, members_of, row_of}

-- The glob with this text fits the path with this one.
abbrev pub FitsPath : List ℕ → List ℕ → Type 0
FitsPath glob path = Fits (globs_of glob) (nodes_of path)

-- Such bytes, among them no dot, come first in the path, and the glob fits what follows them.
abbrev pub FirstThen : (List ℕ → Type 0) → List ℕ → List ℕ → Type 0
FirstThen covers glob path =
    (front : List ℕ) × (rest : List ℕ) × (path ≡ front ++ rest) × HasNone 46 front × covers front × FitsPath glob rest

-- A dot comes first in the path, and the glob fits what follows it.
abbrev pub DotThen : List ℕ → List ℕ → Type 0
DotThen glob path = (rest : List ℕ) × (path ≡ 46 ∷ rest) × FitsPath glob rest

-- this one byte
abbrev pub IsByte : ℕ → List ℕ → Type 0
IsByte b bytes = bytes ≡ b ∷ []

-- any one byte
abbrev pub IsOneByte : List ℕ → Type 0
IsOneByte bytes = (b : ℕ) × bytes ≡ b ∷ []

-- any number of bytes, none included
abbrev pub AreBytes : List ℕ → Type 0
AreBytes bytes = Unit {0}

-- one byte of a list with these members
abbrev pub IsMember : List ℕ → List ℕ → Type 0
IsMember members bytes = (b : ℕ) × (bytes ≡ b ∷ []) × IsTrue (list_any (is_within b) (members_of members))

-- A value of braces whose lists are closed: it reads the same whatever follows it.
pub record IsClosed (value : List ℕ) : Type 0 where
  pub no_dot : HasNone 46 value
  pub no_braces : HasNone 123 value
  pub reads : (more : List ℕ) → row_of (value ++ more) ≡ row_of value ++ row_of more

-- The glob that begins with one of the values fits.
abbrev pub FitsSome : List (List ℕ) → List ℕ → List ℕ → Type 0
FitsSome [] glob path = ⊥
FitsSome (value ∷ values) glob path = FitsPath (value ++ glob) path ⊎ FitsSome values glob path

-- the bytes of a glob before the first wildcard, bracket or brace
abbrev pub literal_front : List ℕ → List ℕ
literal_front text = before_first is_special text

-- a text begins with another
abbrev pub BeginsWith : List ℕ → List ℕ → Type 0
BeginsWith front text = (rest : List ℕ) × text ≡ front ++ rest

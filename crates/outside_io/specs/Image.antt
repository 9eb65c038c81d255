-- What stands on a disk, and what its calls do to it.
use Rattle.std.specs.Prelude.{◌≡◌, ◌≢◌, ◌↔◌, ℕ, ◌+◌, ◌≤◌, List, ◌++◌, length, take, drop, replicate, Contains, Option, Some, None, ⊤, IsSome, IfSome, IsSomeAnd, option_map, bytes_eq}
use Rattle.std.specs.List.{IsDistinct}

-- the bytes of the file under each name
abbrev pub Image : Type 0
Image = List ℕ → Option (List ℕ)

-- a fact on the images before and after, where the disk tells them; a disk that tells its image goes on telling it,
-- and one that does not, does not
abbrev pub WhereKnown : Option Image → Option Image → (Image → Image → Type 0) → Type 0
WhereKnown None None P = ⊤
WhereKnown None (Some after) P = ⊥
WhereKnown (Some before) None P = ⊥
WhereKnown (Some before) (Some after) P = P before after

-- the list has the name of each file once, and no other name
pub record ListsNames (image : Image) (names : List (List ℕ)) : Type 0 where
  pub once : IsDistinct bytes_eq names
  pub held : (name : List ℕ) → Contains names name ↔ IsSome (image name)

-- the length of the file, or none where the name is not there
abbrev pub LengthIs : Option Image → List ℕ → Option ℕ → Type 0
LengthIs known name answer = IfSome known (λ image. answer ≡ option_map length (image name))

-- the range lies in the file of that name
abbrev pub IsWithinFile : Option Image → List ℕ → ℕ → ℕ → Type 0
IsWithinFile known name at count = IfSome known (λ image. IsSomeAnd (image name) (λ file. at + count ≤ length file))

-- the bytes are those of the file from that place on
abbrev pub ReadsFile : Option Image → List ℕ → ℕ → List ℕ → Type 0
ReadsFile known name at bytes =
    IfSome known (λ image. IsSomeAnd (image name) (λ file. bytes ≡ take (length bytes) (drop at file)))

-- every other file is as before
abbrev pub ChangesOnly : Image → Image → List ℕ → Type 0
ChangesOnly before after name = (other : List ℕ) → other ≢ name → after other ≡ before other

-- every file is as before
abbrev pub SameImage : Image → Image → Type 0
SameImage before after = (name : List ℕ) → after name ≡ before name

-- the file holds these bytes, and no other file changed
abbrev pub PutsFile : Image → Image → List ℕ → List ℕ → Type 0
PutsFile before after name bytes = (after name ≡ Some bytes) × ChangesOnly before after name

-- the file holds so many zero bytes, and no other file changed
abbrev pub Creates : Image → Image → List ℕ → ℕ → Type 0
Creates before after name len = PutsFile before after name (replicate len 0)

-- a file with a piece put over the bytes from that place on
abbrev pub put_over : List ℕ → ℕ → List ℕ → List ℕ
put_over file at piece = take at file ++ piece ++ drop (at + length piece) file

-- the piece stands in the file, and nothing else changed
abbrev pub Writes : Image → Image → List ℕ → ℕ → List ℕ → Type 0
Writes before after name at piece =
    (after name ≡ option_map (λ file. put_over file at piece) (before name)) × ChangesOnly before after name

-- two files of one length, alike outside the range
abbrev pub IsTorn : List ℕ → List ℕ → ℕ → ℕ → Type 0
IsTorn file torn at count =
    (length torn ≡ length file) × (take at torn ≡ take at file) × (drop (at + count) torn ≡ drop (at + count) file)

-- the range of the file may hold any bytes, and nothing else changed
abbrev pub Tears : Image → Image → List ℕ → ℕ → ℕ → Type 0
Tears before after name at count =
    IfSome (before name) (λ file. IsSomeAnd (after name) (λ torn. IsTorn file torn at count)) × ChangesOnly before after name

-- no file stands there
abbrev pub IsEmptyImage : Image → Type 0
IsEmptyImage image = (name : List ℕ) → image name ≡ None

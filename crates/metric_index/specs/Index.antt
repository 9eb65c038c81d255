-- An index: the known paths, each with its entry.
use Rattle.std.specs.Prelude.{◌≡◌, ◌≢◌, ℕ, List, Option}
use Rattle.std.specs.Map.{lookup, keys_of}
use Rattle.std.specs.Str.{bytes_eq}

-- the paths of an index
abbrev pub paths_of : {V : Type 0} → List (List ℕ × V) → List (List ℕ)
paths_of index = keys_of index

-- the entry of a path, if the path is known
abbrev pub entry_of : {V : Type 0} → List (List ℕ × V) → List ℕ → Option V
entry_of index path = lookup (bytes_eq path) index

-- One path has this entry now, or none, and each other path what it had.
pub record Sets {V : Type 0} (old new : List (List ℕ × V)) (path : List ℕ) (entry : Option V) : Type 0 where
  pub here : entry_of new path ≡ entry
  pub others : (other : List ℕ) → other ≢ path → entry_of new other ≡ entry_of old other

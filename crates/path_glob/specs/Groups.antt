-- The pattern of a node as groups of rows, which cover a node in turn.
use Rattle.std.specs.Prelude.{ℕ, List, map}
use Rattle.path_glob.specs.Glob.{Braces, NodeCovers, Piece, Simple}
use Rattle.path_glob.specs.States.{rows_of}
use Rattle.path_glob.specs.declared.groups.Group.{Group}
use Rattle.path_glob.specs.declared.groups.Group.TheVariants.{States, Text}

-- the rows of a group
abbrev pub group_rows : Group → List (List Simple)
group_rows (Text rows) = rows_of rows
group_rows (States rows) = rows

-- the rows of groups
abbrev pub all_rows : List Group → List (List (List Simple))
all_rows groups = map group_rows groups

-- One row after the other, each of the group in its turn, covers these bytes.
abbrev pub GroupsCover : List (List (List Simple)) → List ℕ → Type 0
GroupsCover groups bytes = NodeCovers (map Braces groups) bytes

-- Groups cover what the pieces of a node cover.
abbrev pub AreGroups : List (List (List Simple)) → List Piece → Type 0
AreGroups groups pieces =
    (bytes : List ℕ) → (GroupsCover groups bytes → NodeCovers pieces bytes) × (NodeCovers pieces bytes → GroupsCover groups bytes)

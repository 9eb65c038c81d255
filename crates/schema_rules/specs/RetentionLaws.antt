-- What holds of the archives of any retention text.
use Rattle.std.specs.Prelude.{◌≤◌, ℕ, List, [], ◌∷◌, map, All, Contains, IsPermutation, MatchOption, Option, Some, None}
use Rattle.std.specs.List.{slice_split}
use Rattle.ring_format.specs.declared.archive.Archive.{Archive}
use Rattle.rule_lines.specs.TextLines.{trimmed}
use Rattle.schema_rules.specs.Retentions.{archive_of, archives_of, is_comma}

-- each piece between commas as its archive, or none where it has not the form of one
abbrev pub pieces_of : List ℕ → List (Option Archive)
pieces_of text = map (λ piece. archive_of (trimmed piece)) (slice_split is_comma text)

-- no step is above a later one
abbrev pub StepsRise : List Archive → Type 0
StepsRise [] = Unit {0}
StepsRise (archive ∷ more) = All (λ later. archive.step ≤ later.step) more × StepsRise more

-- the archives are those of the pieces in order of step
abbrev pub AreInOrder : List (Option Archive) → List Archive → Type 0
AreInOrder pieces archives = IsPermutation pieces (map (λ archive. Some archive) archives) × StepsRise archives

-- a text has archives unless one of its pieces has none, and they are those of the pieces in order of step
abbrev pub AreOfPieces : Type 0
AreOfPieces = (text : List ℕ) → MatchOption (archives_of text) (Contains (pieces_of text) None) (AreInOrder (pieces_of text))

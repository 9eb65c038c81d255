-- What a write may do.
use Rattle.std.specs.Prelude.{ℕ, ◌<◌, ◌≤◌, List, length, take, Option, ⊤}
use Rattle.std.specs.Io.KnownBytes.{Appends, Keeps}
use Rattle.outside_io.specs.declared.sink.WriteEnd.{WriteEnd}
use Rattle.outside_io.specs.declared.sink.WriteEnd.TheVariants.{Took, Failed}

-- bytes that were taken are at least one, and of the piece
abbrev pub WritesSome : WriteEnd → List ℕ → Type 0
WritesSome (Took count) piece = (0 < count) × (count ≤ length piece)
WritesSome Failed piece = ⊤

-- what was written grows by the front of the piece; a failed write appends nothing
abbrev pub WriteGives : Option (List ℕ) → Option (List ℕ) → WriteEnd → List ℕ → Type 0
WriteGives old new (Took count) piece = Appends old new (take count piece)
WriteGives old new Failed piece = Keeps old new

-- what was written grows by the text's front of some length
abbrev pub AppendsFront : Option (List ℕ) → Option (List ℕ) → List ℕ → Type 0
AppendsFront old new text = (count : ℕ) × (count ≤ length text) × Appends old new (take count text)

-- What a read may do.
use Rattle.std.specs.Prelude.{ℕ, ◌<◌, ◌≤◌, List, length, take, Option, ⊤}
use Rattle.std.specs.Io.KnownBytes.{Consumes, Keeps, IsAtEnd}
use Rattle.outside_io.specs.declared.source.ReadEnd.{ReadEnd}
use Rattle.outside_io.specs.declared.source.ReadEnd.TheVariants.{Got, End, Failed}

-- bytes that came are at least one, and lie in the buffer
abbrev pub ReadsSome : ReadEnd → List ℕ → Type 0
ReadsSome (Got count) buf = (0 < count) × (count ≤ length buf)
ReadsSome End buf = ⊤
ReadsSome Failed buf = ⊤

-- the buffer begins with the next bytes of what was left; the end comes where nothing is left; a failed read takes nothing
abbrev pub ReadTakes : Option (List ℕ) → Option (List ℕ) → ReadEnd → List ℕ → Type 0
ReadTakes old new (Got count) buf = Consumes old new (take count buf)
ReadTakes old new End buf = IsAtEnd old × Keeps old new × IsAtEnd new
ReadTakes old new Failed buf = Keeps old new

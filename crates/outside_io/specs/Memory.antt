-- What the streams in memory hold, and the pieces that they give and take.
use Rattle.std.specs.Prelude.{◌≡◌, ℕ, ◌+◌, ◌-◌, ◌^◌, ◌<◌, ◌≤◌, List, [], ◌++◌, take, min, slice_index, EachIndex, IsTrue, ⊤}
use Rattle.outside_io.specs.Calls.{Calls, after_call, fails_next, listed_calls}
use Rattle.outside_io.specs.Faults.{raised}
use Rattle.outside_io.specs.declared.source.ReadEnd.{ReadEnd}
use Rattle.outside_io.specs.declared.source.ReadEnd.TheVariants as read
use Rattle.outside_io.specs.declared.sink.WriteEnd.{WriteEnd}
use Rattle.outside_io.specs.declared.sink.WriteEnd.TheVariants as write

-- the bytes that are left, how many were read before them, how many come at once at most, the places that no read
-- goes across, which reads fail, and how many have failed
pub record SourceState : Type 0 where
  pub left : List ℕ
  pub taken : ℕ
  pub most : ℕ
  pub cuts : List ℕ
  pub calls : Calls
  pub faults : ℕ

-- so many bytes are no more than come at once, and go across no cut
abbrev pub IsPiece : SourceState → ℕ → Type 0
IsPiece source count = (count ≤ source.most)
    × EachIndex source.cuts (λ k. source.taken < slice_index source.cuts k → source.taken + count ≤ slice_index source.cuts k)

abbrev pub GivesPiece : SourceState → ReadEnd → Type 0
GivesPiece source (read.Got count) = IsPiece source count
GivesPiece source read.End = ⊤
GivesPiece source read.Failed = ⊤

-- A read gave a piece, and left as they are the pieces in which the source comes.
pub record ReadsPiece (old new : SourceState) (end : ReadEnd) : Type 0 where
  pub piece : GivesPiece old end
  pub most : new.most ≡ old.most
  pub cuts : new.cuts ≡ old.cuts

-- the bytes that were written, for how many more there is memory, how many are taken at once at most, which writes
-- fail, and how many have failed
pub record SinkState : Type 0 where
  pub bytes : List ℕ
  pub room : ℕ
  pub most : ℕ
  pub calls : Calls
  pub faults : ℕ

-- nothing is written yet, any piece is taken whole, and no write fails
abbrev pub new_sink : ℕ → SinkState
new_sink room = record { bytes = []; room = room; most = 2 ^ 64 - 1; calls = listed_calls []; faults = 0 }

-- of a piece of so many bytes as many are taken as can be at once
abbrev pub TakesPiece : SinkState → ℕ → WriteEnd → Type 0
TakesPiece sink len (write.Took count) = count ≡ min len sink.most
TakesPiece sink len write.Failed = ⊤

-- there is memory for as much of a piece as is taken at once
abbrev pub HasRoom : SinkState → ℕ → Type 0
HasRoom sink len = min len sink.most ≤ sink.room

-- A write of so many bytes fails where it is listed to fail, and else only where there is no memory for them.
pub record FailsWhere (old : SinkState) (len : ℕ) (end : WriteEnd) : Type 0 where
  pub listed : IsTrue (fails_next old.calls) → end ≡ write.Failed
  pub within : HasRoom old len → end ≡ write.Failed → IsTrue (fails_next old.calls)

-- how many bytes were taken
abbrev pub taken : WriteEnd → ℕ
taken (write.Took count) = count
taken write.Failed = 0

-- the sink after a write of a piece, with so much room
abbrev pub after_write : SinkState → List ℕ → ℕ → WriteEnd → SinkState
after_write sink piece room (write.Took count) =
    record sink { bytes = sink.bytes ++ take count piece; room = room; calls = after_call sink.calls }
after_write sink piece room write.Failed =
    record sink { room = room; calls = after_call sink.calls; faults = raised sink.faults }

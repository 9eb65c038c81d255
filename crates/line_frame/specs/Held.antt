-- What a buffer of bytes holds as lines. The bytes before the place `at` were handed out, those
-- from there up to `open_start` are lines that wait, each with its LF, and the others are the line
-- that is not ended yet.
use Rattle.std.specs.Prelude.{◌≡◌, ℕ, ◌+◌, ◌<◌, ◌≤◌, false, List, [], ◌∷◌, length, drop, Option, Some, None, slice_index, slice_range}
use Rattle.std.specs.List.{All}
use Rattle.std.specs.Option.{ForSome}
use Rattle.line_frame.specs.Lines.{Framing, is_lf, line_of, lines, most_line_bytes, open_text}

-- none of the bytes is an LF
abbrev pub HasNoLf : List ℕ → Type 0
HasNoLf bytes = All (λ b. is_lf b ≡ false) bytes

-- the last LF stands at this place
pub record IsLastLf (bytes : List ℕ) (last : ℕ) : Type 0 where
  pub place : last < length bytes
  pub lf : slice_index bytes last ≡ 10
  pub later : HasNoLf (drop (last + 1) bytes)

-- the bytes of the line that was handed out last, where it can still be read: from one place of
-- the buffer up to another
abbrev pub texts_at : List ℕ → Option (ℕ × ℕ) → List (List ℕ)
texts_at buffer None = []
texts_at buffer (Some place) = slice_range buffer place.0 place.1 ∷ []

-- what a caller sees of the buffer
abbrev pub framing_of : List ℕ → ℕ → ℕ → Option (ℕ × ℕ) → Framing
framing_of buffer at open_start current = record {
  waiting = lines (slice_range buffer at open_start);
  open_line = line_of (drop open_start buffer);
  current = texts_at buffer current;
}

-- The places are those of a framer. Of the open line no more bytes are kept than show that it is
-- too long.
pub record IsLaidOut (buffer : List ℕ) (at open_start : ℕ) (current : Option (ℕ × ℕ)) : Type 0 where
  pub ordered : at ≤ open_start
  pub within : open_start ≤ length buffer
  pub whole : open_text (slice_range buffer at open_start) ≡ []
  pub unended : HasNoLf (drop open_start buffer)
  pub short : length buffer ≤ open_start + (most_line_bytes + 1)
  pub readable : ForSome current (λ place. (place.0 ≤ place.1) × (place.1 ≤ length buffer))
  pub readable_line : ForSome current (λ place. place.1 ≤ place.0 + most_line_bytes)

-- The lines of a byte stream.
use Rattle.std.specs.Prelude.{◌≡◌, ℕ, ◌-◌, ◌==◌, Bool, nat_le, List, [], ◌++◌, length, take, map, if◌then◌else◌, slice_index_or}
use Rattle.std.specs.List.{slice_split}

-- the most bytes that a line may have
abbrev pub most_line_bytes : ℕ
most_line_bytes = 16384

-- a line as its reader gets it: its bytes, or that it had more than a line may have
pub data Line : Type 0 where
  Whole : List ℕ → Line
  TooLong : Line

-- whether a byte is the line feed, LF
abbrev pub is_lf : ℕ → Bool
is_lf b = b == 10

-- the line with these bytes
abbrev pub line_of : List ℕ → Line
line_of bytes = if nat_le (length bytes) most_line_bytes then Whole bytes else TooLong

-- the bytes of each line: what stands before each LF. What follows the last LF is no line.
abbrev pub texts_of_lines : List ℕ → List (List ℕ)
texts_of_lines bytes = take (length (slice_split is_lf bytes) - 1) (slice_split is_lf bytes)

-- the lines of a stream, in order
abbrev pub lines : List ℕ → List Line
lines bytes = map line_of (texts_of_lines bytes)

-- what follows the last LF: the line that is not ended yet
abbrev pub open_text : List ℕ → List ℕ
open_text bytes = slice_index_or (slice_split is_lf bytes) (length (slice_split is_lf bytes) - 1) []

-- What a framer holds: the lines that have come and were not handed out, the line that is not
-- ended yet, and the line that was handed out last, while it can be read.
pub record Framing : Type 0 where
  pub waiting : List Line
  pub open_line : Line
  pub current : List (List ℕ)

-- Of a stream of which the bytes `taken` were fed, in any pieces, the lines `handed` were handed
-- out and the others wait.
pub record HandsOut (handed : List Line) (taken : List ℕ) (framing : Framing) : Type 0 where
  pub in_order : lines taken ≡ handed ++ framing.waiting
  pub open_part : line_of (open_text taken) ≡ framing.open_line

-- The lines of a rule file, and the blanks in them.
use Rattle.std.specs.Prelude.{ℕ, ◌-◌, ◌==◌, Bool, ◌||◌, not, List, [], ◌∷◌, length, take, drop, reverse, slice_index}
use Rattle.std.specs.List.{position_or_len, slice_split}
use Rattle.std.specs.Str.Lines.{strip_carriage_return}

-- ---- blanks

-- the space and the tab
abbrev pub is_blank : ℕ → Bool
is_blank b = b == 32 || b == 9

abbrev pub is_no_blank : ℕ → Bool
is_no_blank b = not (is_blank b)

-- a text without the blanks at its end, at its front, and at both
unfoldable pub without_last_blanks : List ℕ → List ℕ
without_last_blanks text = take (length text - position_or_len is_no_blank (reverse text)) text

unfoldable pub without_first_blanks : List ℕ → List ℕ
without_first_blanks text = drop (position_or_len is_no_blank text) text

unfoldable pub trimmed : List ℕ → List ℕ
trimmed text = without_last_blanks (without_first_blanks text)

-- ---- lines

abbrev pub is_lf : ℕ → Bool
is_lf b = b == 10

-- of the pieces between line feeds each but the last loses one carriage return at its end
abbrev pub closed_lines : List (List ℕ) → List (List ℕ)
closed_lines [] = []
closed_lines (last ∷ []) = last ∷ []
closed_lines (line ∷ next ∷ more) = strip_carriage_return line ∷ closed_lines (next ∷ more)

-- the lines of a file, the last of which needs no line feed
abbrev pub lines_of : List ℕ → List (List ℕ)
lines_of file = closed_lines (slice_split is_lf file)

-- an empty line or a comment
unfoldable pub is_passed_over : List ℕ → Bool
is_passed_over line = length line == 0 || (slice_index line 0 == 35 || slice_index line 0 == 59)

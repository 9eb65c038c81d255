-- The bytes of a target, and the words that they make.
use Rattle.std.specs.Prelude.{ℕ, ◌==◌, Bool, true, false, ◌&&◌, ◌||◌, nat_le, List, [], ◌∷◌, take, drop, Option, Some, None, if◌then◌else◌}
use Rattle.std.specs.List.{list_all}
use Rattle.std.specs.Char.{is_ascii_digit}
use Rattle.std.specs.Str.{bytes_eq}
use Rattle.path_glob.specs.Stretch.{stretch_len}
use Rattle.target_parse.specs.Tree.{flag_text}

-- the most bytes of a target
abbrev pub most_target_bytes : ℕ
most_target_bytes = 16384

-- how deep calls may nest
abbrev pub most_depth : ℕ
most_depth = 32

-- space and tab
abbrev pub is_blank : ℕ → Bool
is_blank b = b == 32 || b == 9

-- `'` and `"`
abbrev pub is_quote : ℕ → Bool
is_quote b = b == 39 || b == 34

abbrev pub is_letter : ℕ → Bool
is_letter b = (nat_le 65 b && nat_le b 90) || (nat_le 97 b && nat_le b 122)

-- letters, digits and `_`
abbrev pub is_word_byte : ℕ → Bool
is_word_byte b = is_letter b || (is_ascii_digit b || b == 95)

-- The name of a call: a letter, and then letters, digits and `_`.
abbrev pub is_name : List ℕ → Bool
is_name [] = false
is_name (b ∷ rest) = is_letter b && list_all is_word_byte rest

-- the flag that a text is
unfoldable pub flag_of : List ℕ → Option Bool
flag_of text =
    if bytes_eq text (flag_text true) then Some true else (if bytes_eq text (flag_text false) then Some false else None)

-- the longest stretch that begins a text, and what follows it
abbrev pub stretch_of : List ℕ → List ℕ
stretch_of text = take (stretch_len false text) text

abbrev pub behind_stretch : List ℕ → List ℕ
behind_stretch text = drop (stretch_len false text) text

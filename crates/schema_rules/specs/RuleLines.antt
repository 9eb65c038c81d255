-- The sections that the lines of a rule file make.
use Rattle.std.specs.Prelude.{ℕ, ◌+◌, ◌-◌, ◌==◌, Bool, ◌&&◌, ◌||◌, not, List, [], ◌∷◌, ◌++◌, length, take, drop, position, slice_get, slice_index, slice_set, codes, Option, Some, None, option_map, option_and_then, Result, Ok, Err, if◌then◌else◌, false}
use Rattle.std.specs.Option.{option_map_or}
use Rattle.std.specs.Str.{is_utf8, str_eq_ignore_ascii_case}
use Rattle.rule_lines.specs.TextLines.{is_blank, is_passed_over, lines_of, without_first_blanks, without_last_blanks}

-- ---- what a section holds

-- The values of the keys that count. A section without a pattern, or without retentions, has none of its
-- bytes here; the others are told from an empty value.
pub record SectionValue : Type 0 where
  pub pattern : List ℕ
  pub retentions : List ℕ
  pub factor : Option (List ℕ)
  pub method : Option (List ℕ)

abbrev pub new_section : SectionValue
new_section = record { pattern = []; retentions = []; factor = None; method = None }

-- whether a key is this one, in capitals or not
abbrev pub is_pattern_key : List ℕ → Bool
is_pattern_key key = str_eq_ignore_ascii_case key (codes "pattern")

abbrev pub is_retentions_key : List ℕ → Bool
is_retentions_key key = str_eq_ignore_ascii_case key (codes "retentions")

abbrev pub is_factor_key : List ℕ → Bool
is_factor_key key = str_eq_ignore_ascii_case key (codes "xfilesfactor")

abbrev pub is_method_key : List ℕ → Bool
is_method_key key = str_eq_ignore_ascii_case key (codes "aggregationmethod")

-- a section with a key's value, in place of one that it had; other keys are passed over
unfoldable pub with_value : SectionValue → List ℕ → List ℕ → SectionValue
with_value section key value =
    if is_pattern_key key then record section { pattern = value } else
    (if is_retentions_key key then record section { retentions = value } else
    (if is_factor_key key then record section { factor = Some value } else
    (if is_method_key key then record section { method = Some value } else section)))

-- ---- what a line does

abbrev pub is_bracket : ℕ → Bool
is_bracket b = b == 93

-- `[name]`, a name of at least one byte and without `]`
unfoldable pub is_header : List ℕ → Bool
is_header line = slice_index line 0 == 91 && option_map_or (λ at. not (at == 1) && at + 1 == length line) (position is_bracket line) false

abbrev pub is_separator : ℕ → Bool
is_separator b = b == 61 || b == 58

-- a key of at least one byte, and its value
abbrev pub key_and_value : List ℕ → List ℕ → Option (List ℕ × List ℕ)
key_and_value key value = if length key == 0 then None else Some (key, value)

-- The key and the value of a line, which its first `=` or `:` separates. Blanks round both are dropped: no line
-- begins with a blank, and those at its end are dropped already.
unfoldable pub setting_of : List ℕ → Option (List ℕ × List ℕ)
setting_of line =
    option_and_then (λ at. key_and_value (without_last_blanks (take at line)) (without_first_blanks (drop (at + 1) line))) (position is_separator line)

-- the sections with a key's value in the last one, where there is one
unfoldable pub with_setting : List SectionValue → List ℕ × List ℕ → Option (List SectionValue)
with_setting sections setting =
    option_map (λ section. slice_set sections (length sections - 1) (with_value section setting.0 setting.1)) (slice_get sections (length sections - 1))

-- The sections after a line, from which the blanks at its end are dropped: none where the line begins with a
-- blank, is no UTF-8 or has no form of a line, and where a key stands before the first section.
unfoldable pub after_line : List SectionValue → List ℕ → Option (List SectionValue)
after_line sections line =
    if not (is_utf8 line) then None else
    (if is_passed_over line then Some sections else
    (if is_blank (slice_index line 0) then None else
    (if is_header line then Some (sections ++ new_section ∷ []) else
    option_and_then (with_setting sections) (setting_of line))))

-- The sections after these lines, the first of which has the number `n`, or the number of the first line
-- that cannot stand there.
unfoldable pub sections_from : List SectionValue → ℕ → List (List ℕ) → Result (List SectionValue) ℕ
sections_from sections n [] = Ok sections
sections_from sections n (line ∷ more) = option_map_or (λ next. sections_from next (n + 1) more) (after_line sections (without_last_blanks line)) (Err n)

-- the sections of a file, or the number of its first bad line, from 1 on
abbrev pub sections_of : List ℕ → Result (List SectionValue) ℕ
sections_of file = sections_from [] 1 (lines_of file)

-- Spans of time, `1h30min`: numbers with units, one behind the other.
use Rattle.std.specs.Prelude.{ℕ, ◌+◌, ◌*◌, ◌==◌, Bool, false, not, ◌&&◌, List, [], ◌∷◌, length, take, drop, Option, Some, None, option_map, option_and_then, if◌then◌else◌}
use Rattle.std.specs.List.{position_or_len}
use Rattle.std.specs.Char.{is_ascii_digit}
use Rattle.std.specs.Str.Parse.{digits_value}
use Rattle.time_range.specs.TimeUnits.{unit_seconds}

abbrev pub is_no_digit : ℕ → Bool
is_no_digit b = not (is_ascii_digit b)

-- whether a byte is the last of its span: a digit begins the next one
abbrev pub ends_span : ℕ → List ℕ → Bool
ends_span b [] = false
ends_span b (next ∷ more) = is_no_digit b && is_ascii_digit next

abbrev pub in_front : ℕ → List (List ℕ) → List (List ℕ)
in_front b [] = (b ∷ []) ∷ []
in_front b (span ∷ spans) = (b ∷ span) ∷ spans

-- the spans of a text, which is cut before each digit that stands behind a byte that is none
unfoldable pub spans_of : List ℕ → List (List ℕ)
spans_of [] = []
spans_of (b ∷ bs) = if ends_span b bs then (b ∷ []) ∷ spans_of bs else in_front b (spans_of bs)

-- the length of the first of them
unfoldable pub first_length : List ℕ → ℕ
first_length [] = 0
first_length (b ∷ bs) = if ends_span b bs then 1 else first_length bs + 1

-- the digits at the front of a span, and its unit behind them
abbrev pub digits_of : List ℕ → List ℕ
digits_of span = take (position_or_len is_no_digit span) span

abbrev pub unit_of : List ℕ → List ℕ
unit_of span = drop (position_or_len is_no_digit span) span

-- the seconds of a span: at least one digit, and a unit
unfoldable pub span_seconds : List ℕ → Option ℕ
span_seconds span =
    if length (digits_of span) == 0 then None else
    option_map (λ unit. digits_value 10 (digits_of span) * unit) (unit_seconds (unit_of span))

-- the seconds of all spans
unfoldable pub total_of : List (List ℕ) → Option ℕ
total_of [] = Some 0
total_of (span ∷ spans) = option_and_then (λ seconds. option_map (λ more. seconds + more) (total_of spans)) (span_seconds span)

-- the seconds of a text of one span or more
unfoldable pub seconds_of : List ℕ → Option ℕ
seconds_of text = if length text == 0 then None else total_of (spans_of text)

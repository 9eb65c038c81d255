-- Numbers of any length, digit by digit: a place counts the digits behind it.
use Rattle.std.specs.Prelude.{ℕ, ◌+◌, ◌-◌, ◌*◌, ◌^◌, min, nat_lt, List, [], ◌∷◌, length, take, slice_index, if◌then◌else◌}
use Rattle.std.specs.Option.{unwrap_or}
use Rattle.std.specs.Str.Parse.{digits_value}
use Rattle.time_range.specs.Spans.{digits_of, unit_of}
use Rattle.time_range.specs.TimeUnits.{unit_seconds}

-- the number of a row of digits without those behind a place and at it
abbrev pub front : ℕ → List ℕ → ℕ
front place digits = digits_value 10 (take (length digits - place) digits)

-- the digit at a place, 0 in front of the row
unfoldable pub digit_at : ℕ → List ℕ → ℕ
digit_at place digits = if nat_lt place (length digits) then slice_index digits (length digits - (place + 1)) - 48 else 0

abbrev pub unit_in : List ℕ → ℕ
unit_in span = unwrap_or (unit_seconds (unit_of span)) 0

-- the seconds of spans without the digits behind a place
unfoldable pub fronts : ℕ → List (List ℕ) → ℕ
fronts place [] = 0
fronts place (span ∷ spans) = unit_in span * front place (digits_of span) + fronts place spans

-- the seconds of the digits at a place
unfoldable pub span_column : ℕ → List ℕ → ℕ
span_column place span = unit_in span * digit_at place (digits_of span)

unfoldable pub column : ℕ → List (List ℕ) → ℕ
column place [] = 0
column place (span ∷ spans) = span_column place span + column place spans

-- the difference of two numbers, with 2^100 more, cut at 0 and at 2^101
abbrev pub kept : ℕ → ℕ → ℕ
kept more less = min (more + 2 ^ 100 - less) (2 ^ 101)

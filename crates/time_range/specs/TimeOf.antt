-- The moment that a text names, in seconds since the Unix epoch, and the time that is read of it.
use Rattle.std.specs.Prelude.{ℕ, ◌==◌, Bool, ◌&&◌, ◌||◌, not, nat_le, nat_lt, ℤ, pos, negsuc, neg_ℤ, ◌+ℤ◌, List, [], ◌∷◌, length, take, drop, Option, Some, None, option_map, option_and_then, Result, Ok, Err, if◌then◌else◌, codes}
use Rattle.std.specs.List.{list_all, position_or_len}
use Rattle.std.specs.Char.{is_ascii_digit}
use Rattle.std.specs.Str.{bytes_eq}
use Rattle.std.specs.Str.Parse.{digits_value, starts_with_minus}
use Rattle.time_range.specs.declared.fault.TimeFault.{TimeFault}
use Rattle.time_range.specs.declared.fault.TimeFault.TheVariants.{BeforeEpoch, NotTime, TooLate}
use Rattle.time_range.specs.Dates.{clock_second, date_second, is_meant_as_date}
use Rattle.time_range.specs.SpanOf.{latest}
use Rattle.time_range.specs.Spans.{seconds_of}

-- ---- the reference: `now`, a row of digits, or `HH:MM_YYYYMMDD`

-- at least one digit, and nothing else
abbrev pub is_digits : List ℕ → Bool
is_digits text = nat_lt 0 (length text) && list_all is_ascii_digit text

-- a row of digits that is a number of seconds since the epoch, and no date
unfoldable pub is_count : List ℕ → Bool
is_count text = is_digits text && not (is_meant_as_date text)

abbrev pub is_now : List ℕ → Bool
is_now text = bytes_eq text (codes "now")

-- the second of a reference that is no such number
unfoldable pub named_second : List ℕ → ℕ → Option ℤ
named_second text now =
    if is_now text then Some (pos now) else
    (if is_digits text then date_second text else clock_second text)

abbrev pub reference_second : List ℕ → ℕ → Option ℤ
reference_second text now = if is_count text then Some (pos (digits_value 10 text)) else named_second text now

-- ---- the offset: a sign and spans, or nothing

unfoldable pub offset_of : List ℕ → Option ℤ
offset_of [] = Some (pos 0)
offset_of (sign ∷ spans) = option_map (λ seconds. if sign == 45 then neg_ℤ (pos seconds) else pos seconds) (seconds_of spans)

-- so long after a second, or before it
abbrev pub moved : ℤ → List ℕ → Option ℤ
moved from offset = option_map (λ by. from +ℤ by) (offset_of offset)

-- ---- the whole

abbrev pub is_sign : ℕ → Bool
is_sign b = b == 43 || b == 45

-- the moment of a reference and an offset; `-` and spans alone are counted from now
unfoldable pub moment_of_parts : List ℕ → List ℕ → ℕ → Option ℤ
moment_of_parts reference offset now =
    if length reference == 0 && starts_with_minus offset then moved (pos now) offset else
    option_and_then (λ from. moved from offset) (reference_second reference now)

-- the exact moment of a text, which is cut at its first sign
abbrev pub moment_of : List ℕ → ℕ → Option ℤ
moment_of text now = moment_of_parts (take (position_or_len is_sign text) text) (drop (position_or_len is_sign text) text) now

-- the times that are read: from the epoch to the latest moment
abbrev pub time_result : Option ℤ → Result ℕ TimeFault
time_result None = Err NotTime
time_result (Some (negsuc n)) = Err BeforeEpoch
time_result (Some (pos n)) = if nat_le n latest then Ok n else Err TooLate

abbrev pub time_of : List ℕ → ℕ → Result ℕ TimeFault
time_of text now = time_result (moment_of text now)

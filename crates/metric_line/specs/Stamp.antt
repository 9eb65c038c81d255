-- The time that a text writes.
use Rattle.std.specs.Prelude.{ℕ, ◌==◌, Bool, ◌&&◌, ◌||◌, not, nat_lt, List, length, drop, Option, Some, None, Result, Ok, Err, if◌then◌else◌, codes}
use Rattle.std.specs.List.{list_all, list_any}
use Rattle.std.specs.Option.{option_map_or}
use Rattle.std.specs.Char.{is_ascii_digit}
use Rattle.std.specs.Str.{bytes_eq}
use Rattle.std.specs.Str.Parse.{digits_value}
use Rattle.fixed_num.specs.Decimal.{is_point, whole_of, fraction_of}
use Rattle.metric_line.specs.declared.stamp.StampFault.{StampFault}
use Rattle.metric_line.specs.declared.stamp.StampFault.TheVariants.{NotNumber, OutOfRange}
use Rattle.fixed_num.specs.Moment.{is_moment}

-- at least one digit, and nothing else
abbrev pub is_digits : List ℕ → Bool
is_digits text = nat_lt 0 (length text) && list_all is_ascii_digit text

-- a time in seconds: digits, and optionally a point and digits behind it
unfoldable pub is_seconds : List ℕ → Bool
is_seconds text = is_digits (whole_of text) && (not (list_any is_point text) || is_digits (fraction_of text))

-- the same of a text that is cut at its first point
abbrev pub is_cut_time : List ℕ → List ℕ → Bool
is_cut_time whole behind = is_digits whole && (length behind == 0 || is_digits (drop 1 behind))

-- the digits before the point of a time
unfoldable pub whole_digits : List ℕ → Option (List ℕ)
whole_digits text = if is_seconds text then Some (whole_of text) else None

-- a number as a moment, or why it is none
abbrev pub moment_result : ℕ → Result ℕ StampFault
moment_result seconds = if is_moment seconds then Ok seconds else Err OutOfRange

-- the text of the time that stands for the moment of reading
abbrev pub is_now : List ℕ → Bool
is_now text = bytes_eq text (codes "-1")

-- The moment that a text writes, read at the moment `now`: `-1` is now, and else it is the whole seconds of a time, whose
-- fraction is cut.
unfoldable pub stamp_of : List ℕ → ℕ → Result ℕ StampFault
stamp_of text now =
    if is_now text then Ok now else
    option_map_or (λ digits. moment_result (digits_value 10 digits)) (whole_digits text) (Err NotNumber)

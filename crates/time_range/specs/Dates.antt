-- Dates and times of day at UTC.
use Rattle.std.specs.Prelude.{ℕ, ◌+◌, ◌*◌, ◌==◌, Bool, ◌&&◌, nat_le, nat_lt, ℤ, pos, ◌+ℤ◌, ◌*ℤ◌, List, length, take, drop, slice_index, Option, Some, None, option_map, option_and_then, if◌then◌else◌}
use Rattle.std.specs.List.{list_all}
use Rattle.std.specs.Char.{is_ascii_digit}
use Rattle.std.specs.Str.Parse.{digits_value}
use Rattle.jiff_core.specs.Calendar.{days_from_civil, days_in_month}

-- the calendar has this day
abbrev pub is_date : ℕ → ℕ → ℕ → Bool
is_date year month day = nat_le 1 month && (nat_le month 12 && (nat_le 1 day && nat_le day (days_in_month (pos year) month)))

-- the first second of a day, where the calendar has it
abbrev pub day_second : ℕ → ℕ → ℕ → Option ℤ
day_second year month day = if is_date year month day then Some (days_from_civil (pos year) month day *ℤ pos 86400) else None

-- the parts of `YYYYMMDD`
abbrev pub year_in : List ℕ → ℕ
year_in digits = digits_value 10 (take 4 digits)

abbrev pub month_in : List ℕ → ℕ
month_in digits = digits_value 10 (take 2 (drop 4 digits))

abbrev pub day_in : List ℕ → ℕ
day_in digits = digits_value 10 (drop 6 digits)

-- the first second of the day that `YYYYMMDD` names
unfoldable pub date_second : List ℕ → Option ℤ
date_second digits = day_second (year_in digits) (month_in digits) (day_in digits)

-- a row of digits that is meant as a date: a year above 1900, a month below 13 and a day below 32
unfoldable pub is_meant_as_date : List ℕ → Bool
is_meant_as_date digits = length digits == 8 && (nat_lt 1900 (year_in digits) && (nat_lt (month_in digits) 13 && nat_lt (day_in digits) 32))

-- a number of digits that is below a bound
unfoldable pub number_below : ℕ → List ℕ → Option ℕ
number_below bound text = if list_all is_ascii_digit text && nat_lt (digits_value 10 text) bound then Some (digits_value 10 text) else None

unfoldable pub date_in : List ℕ → Option ℤ
date_in text = if list_all is_ascii_digit text then date_second text else None

-- the second of a time of day, from 00:00 to 23:59, of a date
unfoldable pub time_of_day : List ℕ → List ℕ → List ℕ → Option ℤ
time_of_day hour minute date =
    option_and_then (λ h. option_and_then (λ m. option_map (λ day. day +ℤ pos (h * 3600 + m * 60)) (date_in date)) (number_below 60 minute)) (number_below 24 hour)

-- a colon and a `_` where `HH:MM_YYYYMMDD` has them
abbrev pub has_marks : List ℕ → Bool
has_marks text = slice_index text 2 == 58 && slice_index text 5 == 95

-- the second that `HH:MM_YYYYMMDD` names
unfoldable pub clock_second : List ℕ → Option ℤ
clock_second text =
    if length text == 14 then
    (if has_marks text then time_of_day (take 2 text) (take 2 (drop 3 text)) (drop 6 text) else None) else None

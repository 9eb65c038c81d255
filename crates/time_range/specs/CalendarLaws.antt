-- Dates follow each other as in the civil calendar, each 86,400 seconds behind the one before.
use Rattle.std.specs.Prelude.{◌≡◌, ℕ, ◌+◌, ◌*◌, ◌<◌, ◌⊎◌, true, ℤ, pos, ◌+ℤ◌, List, ◌∷◌, ◌++◌, length, Some, option_map, codes}
use Rattle.std.specs.List.{list_all}
use Rattle.std.specs.Char.{is_ascii_digit}
use Rattle.std.specs.Str.Parse.{digits_value}
use Rattle.jiff_core.specs.Calendar.{days_in_month}
use Rattle.time_range.specs.Dates.{day_in, is_date, month_in, year_in}
use Rattle.time_range.specs.TimeOf.{moment_of}

-- `YYYYMMDD` of a day that the calendar has, in a year above 1900
pub record IsDay (date : List ℕ) : Type 0 where
  pub eight : length date ≡ 8
  pub digits : list_all is_ascii_digit date ≡ true
  pub late : 1900 < year_in date
  pub real : is_date (year_in date) (month_in date) (day_in date) ≡ true

-- the day behind a day is the next one of its month
pub record IsNextInMonth (date next : List ℕ) : Type 0 where
  pub year : year_in next ≡ year_in date
  pub month : month_in next ≡ month_in date
  pub day : day_in next ≡ day_in date + 1

-- or, behind the last of a month, the first of the next one
pub record BeginsMonth (date next : List ℕ) : Type 0 where
  pub last : day_in date ≡ days_in_month (pos (year_in date)) (month_in date)
  pub year : year_in next ≡ year_in date
  pub month : month_in next ≡ month_in date + 1
  pub day : day_in next ≡ 1

-- or, behind 31 December, 1 January
pub record BeginsYear (date next : List ℕ) : Type 0 where
  pub december : month_in date ≡ 12
  pub last : day_in date ≡ 31
  pub year : year_in next ≡ year_in date + 1
  pub january : month_in next ≡ 1
  pub day : day_in next ≡ 1

abbrev pub IsDayBehind : List ℕ → List ℕ → Type 0
IsDayBehind date next = IsNextInMonth date next ⊎ (BeginsMonth date next ⊎ BeginsYear date next)

-- 1 January 1970 begins with the second 0
abbrev pub BeginsWithTheEpoch : Type 0
BeginsWithTheEpoch = (now : ℕ) → moment_of (codes "19700101") now ≡ Some (pos 0)

-- each day has a moment, and the day behind it the moment 86,400 seconds later
abbrev pub DaysFollow : Type 0
DaysFollow = (date next : List ℕ) (now : ℕ) → IsDay date → IsDay next → IsDayBehind date next
    → (second : ℤ) × (moment_of date now ≡ Some second) × (moment_of next now ≡ Some (second +ℤ pos 86400))

-- two digits of an hour, and two of a minute
pub record IsTimeOfDay (hour minute : List ℕ) : Type 0 where
  pub hour_length : length hour ≡ 2
  pub hour_digits : list_all is_ascii_digit hour ≡ true
  pub hour_below : digits_value 10 hour < 24
  pub minute_length : length minute ≡ 2
  pub minute_digits : list_all is_ascii_digit minute ≡ true
  pub minute_below : digits_value 10 minute < 60

-- `HH:MM_YYYYMMDD`
abbrev pub clock_text : List ℕ → List ℕ → List ℕ → List ℕ
clock_text hour minute date = hour ++ (58 ∷ (minute ++ (95 ∷ date)))

-- a time of day is so many seconds behind its date
abbrev pub HoursFollow : Type 0
HoursFollow = (hour minute date : List ℕ) (now : ℕ) → IsTimeOfDay hour minute → IsDay date
    → moment_of (clock_text hour minute date) now ≡ option_map (λ second. second +ℤ pos (digits_value 10 hour * 3600 + digits_value 10 minute * 60)) (moment_of date now)

-- The units of time, and how many seconds each has.
use Rattle.std.specs.Prelude.{ℕ, Bool, ◌||◌, List, Option, Some, None, if◌then◌else◌, codes}
use Rattle.std.specs.Str.{bytes_eq}

unfoldable pub is_second : List ℕ → Bool
is_second unit = bytes_eq unit (codes "s") || (bytes_eq unit (codes "sec") || (bytes_eq unit (codes "second") || bytes_eq unit (codes "seconds")))

-- `m` alone is no unit: it could be minutes or months
unfoldable pub is_minute : List ℕ → Bool
is_minute unit = bytes_eq unit (codes "min") || (bytes_eq unit (codes "minute") || bytes_eq unit (codes "minutes"))

unfoldable pub is_hour : List ℕ → Bool
is_hour unit = bytes_eq unit (codes "h") || (bytes_eq unit (codes "hour") || bytes_eq unit (codes "hours"))

unfoldable pub is_day : List ℕ → Bool
is_day unit = bytes_eq unit (codes "d") || (bytes_eq unit (codes "day") || bytes_eq unit (codes "days"))

unfoldable pub is_week : List ℕ → Bool
is_week unit = bytes_eq unit (codes "w") || (bytes_eq unit (codes "week") || bytes_eq unit (codes "weeks"))

unfoldable pub is_month : List ℕ → Bool
is_month unit = bytes_eq unit (codes "mon") || (bytes_eq unit (codes "month") || bytes_eq unit (codes "months"))

unfoldable pub is_year : List ℕ → Bool
is_year unit = bytes_eq unit (codes "y") || (bytes_eq unit (codes "year") || bytes_eq unit (codes "years"))

-- the seconds of a unit: a month has 30 days, and a year 365
unfoldable pub unit_seconds : List ℕ → Option ℕ
unit_seconds unit =
    if is_second unit then Some 1 else
    (if is_minute unit then Some 60 else
    (if is_hour unit then Some 3600 else
    (if is_day unit then Some 86400 else
    (if is_week unit then Some 604800 else
    (if is_month unit then Some 2592000 else
    (if is_year unit then Some 31536000 else None))))))

-- Series as comma-separated values, as RFC 4180 has them.
use Rattle.std.specs.Prelude.{ℕ, ℤ, pos, ◌+◌, ◌/◌, ◌%◌, ◌==◌, Bool, ◌&&◌, ◌||◌, nat_le, List, [], ◌∷◌, ◌++◌, flat_map, codes, Option, if◌then◌else◌}
use Rattle.std.specs.List.{find, list_any, range_with_len}
use Rattle.std.specs.Option.{unwrap_or}
use Rattle.jiff_core.specs.Calendar.{day_count, days_in_month}
use Rattle.series_set.specs.Series.{SeriesValue}
use Rattle.render_json.specs.Values.{points_of, value_or}

-- ---- names

-- a comma, a double quote, CR and LF call for quotes
abbrev pub needs_quotes : ℕ → Bool
needs_quotes byte = (byte == 44) || ((byte == 34) || ((byte == 13) || (byte == 10)))

-- a double quote stands twice
abbrev pub doubled : ℕ → List ℕ
doubled byte = if byte == 34 then 34 ∷ (34 ∷ []) else byte ∷ []

abbrev pub in_quotes : List ℕ → List ℕ
in_quotes name = codes "\"" ++ (flat_map doubled name ++ codes "\"")

-- a name as a field
unfoldable pub field_text : List ℕ → List ℕ
field_text name = if list_any needs_quotes name then in_quotes name else name

-- ---- times

-- the calendar has this day
abbrev pub is_date : ℕ → ℕ → ℕ → Bool
is_date year month day = nat_le 1 month && (nat_le month 12 && (nat_le 1 day && nat_le day (days_in_month (pos year) month)))

-- whether the number YYYYMMDD is a date, so many days behind 1 January 1970
abbrev pub is_date_of : ℕ → ℕ → Bool
is_date_of days n =
    is_date (n / 10000) (n / 100 % 100) (n % 100)
    && (day_count (pos (n / 10000)) (n / 100 % 100) (n % 100) == day_count (pos 1970) 1 1 + days)

-- the date so many days behind 1 January 1970, as the number YYYYMMDD
unfoldable pub date_number : ℕ → ℕ
date_number days = unwrap_or (find (is_date_of days) (range_with_len 0 100000000)) 0

abbrev pub two_digits : ℕ → List ℕ
two_digits n = (48 + n / 10) ∷ ((48 + n % 10) ∷ [])

-- `YYYY-MM-DD`
abbrev pub date_text : ℕ → List ℕ
date_text n = two_digits (n / 1000000) ++ (two_digits (n / 10000 % 100) ++ (codes "-" ++ (two_digits (n / 100 % 100) ++ (codes "-" ++ two_digits (n % 100)))))

-- `HH:MM:SS` of a second of a day
abbrev pub clock_text : ℕ → List ℕ
clock_text second = two_digits (second / 3600) ++ (codes ":" ++ (two_digits (second / 60 % 60) ++ (codes ":" ++ two_digits (second % 60))))

-- `YYYY-MM-DD HH:MM:SS` of a second since the Unix epoch, at UTC
unfoldable pub time_text : ℕ → List ℕ
time_text time = date_text (date_number (time / 86400)) ++ (codes " " ++ clock_text (time % 86400))

-- ---- the text

-- the latest end of series that have such a text: their times are of years up to 9999
abbrev pub latest_csv_end : ℕ
latest_csv_end = 253402207200

-- what a line has behind the name: the time and the value, empty for a missing one
unfoldable pub point_fields : ℕ × Option ℤ → List ℕ
point_fields point = codes "," ++ (time_text point.0 ++ (codes "," ++ (value_or [] point.1 ++ codes "\r\n")))

-- a value: a line
abbrev pub line_text : List ℕ → ℕ × Option ℤ → List ℕ
line_text field point = field ++ point_fields point

abbrev pub series_csv : SeriesValue → List ℕ
series_csv s = flat_map (line_text (field_text s.name)) (points_of s)

-- the values of all series, a line each
abbrev pub csv_of : List SeriesValue → List ℕ
csv_of set = flat_map series_csv set

-- What the parameters of a query besides its targets say.
use Rattle.std.specs.Prelude.{ℕ, ◌-◌, ◌==◌, nat_lt, List, length, codes, Option, Some, None, option_and_then, Result, Ok, Err, if◌then◌else◌}
use Rattle.std.specs.Option.{option_map_or}
use Rattle.std.specs.Str.{bytes_eq}
use Rattle.fixed_num.specs.Whole.{whole_number}
use Rattle.time_range.specs.declared.fault.TimeFault.{TimeFault}
use Rattle.time_range.specs.TimeOf.{time_of}
use Rattle.render_plan.specs.declared.fault.QueryFault.{QueryFault}
use Rattle.render_plan.specs.declared.fault.QueryFault.TheVariants.{BadTime, BadRange, BadFormat, BadPoints}
use Rattle.render_plan.specs.declared.form.Parameters.{Parameters}
use Rattle.render_plan.specs.declared.settings.Format.{Format}
use Rattle.render_plan.specs.declared.settings.Format.TheVariants.{Json, Raw, Csv}
use Rattle.render_plan.specs.declared.settings.Settings.{Settings}

-- what follows where nothing was refused so far
abbrev pub where_good : {A B : Type 0} → Result A QueryFault
    → (A → Result B QueryFault) → Result B QueryFault
where_good (Ok x) next = next x
where_good (Err fault) next = Err fault

-- the seconds of a day
abbrev pub default_span : ℕ
default_span = 86400

abbrev pub good_time : Result ℕ TimeFault → Result ℕ QueryFault
good_time (Ok moment) = Ok moment
good_time (Err fault) = Err BadTime

-- the moment that a text names, or the default where there is none
unfoldable pub time_or : Option (List ℕ) → ℕ → ℕ → Result ℕ QueryFault
time_or None now default = Ok default
time_or (Some text) now default = good_time (time_of text now)

unfoldable pub format_of : List ℕ → Option Format
format_of text =
    if bytes_eq text (codes "json") then Some Json else
    (if bytes_eq text (codes "raw") then Some Raw else
    (if bytes_eq text (codes "csv") then Some Csv else None))

unfoldable pub format_or_json : Option (List ℕ) → Result Format QueryFault
format_or_json None = Ok Json
format_or_json (Some text) = option_map_or (λ format. Ok format) (format_of text) (Err BadFormat)

-- the number of one to nine digits that is at least 1
unfoldable pub points_of : List ℕ → Option ℕ
points_of text =
    if nat_lt 9 (length text) then None else
    option_and_then (λ points. if points == 0 then None else Some points) (whole_number text)

unfoldable pub points_or_all : Option (List ℕ) → Result (Option ℕ) QueryFault
points_or_all None = Ok None
points_or_all (Some text) =
    option_map_or (λ points. Ok (Some points)) (points_of text) (Err BadPoints)

-- What the parameters say at a moment, or the first that is refused: `from` and then `until`, both
-- together, the format, the number of points.
unfoldable pub settled : Parameters → ℕ → Result Settings QueryFault
settled given now =
    where_good (time_or given.from now (now - default_span)) (λ from.
    where_good (time_or given.until now now) (λ until.
    if nat_lt until from then Err BadRange else
    where_good (format_or_json given.format) (λ format.
    where_good (points_or_all given.points) (λ points.
    Ok (record { from = from; until = until; format = format; points = points })))))

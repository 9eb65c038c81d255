-- Retentions as the schema file writes them, `60s:1d,5m:30d`: steps, and how far back each reaches.
use Rattle.std.specs.Prelude.{ℕ, ◌+◌, ◌*◌, ◌/◌, ◌==◌, Bool, not, nat_le, List, [], ◌∷◌, length, take, drop, nat_eq, position, codes, Option, Some, None, option_map, option_and_then, if◌then◌else◌}
use Rattle.std.specs.List.{position_or_len, slice_split, starts_with}
use Rattle.std.specs.Char.{is_ascii_digit}
use Rattle.std.specs.Str.Parse.{digits_value}
use Rattle.std.specs.BTreeMap.{insert_entry}
use Rattle.std.specs.Map.{values_of}
use Rattle.ring_format.specs.declared.archive.Archive.{Archive}
use Rattle.ring_format.specs.Patch.{place_cmp}
use Rattle.rule_lines.specs.TextLines.{trimmed}

-- the greatest number, and the most seconds
abbrev pub most_seconds : ℕ
most_seconds = 4000000000

abbrev pub within_most : ℕ → Option ℕ
within_most n = if nat_le n most_seconds then Some n else None

-- ---- numbers with units

abbrev pub is_no_digit : ℕ → Bool
is_no_digit b = not (is_ascii_digit b)

-- the digits at the front of a text, and its unit behind them
abbrev pub digits_of : List ℕ → List ℕ
digits_of text = take (position_or_len is_no_digit text) text

abbrev pub unit_of : List ℕ → List ℕ
unit_of text = drop (position_or_len is_no_digit text) text

-- the number of at least one digit
unfoldable pub number_of : List ℕ → Option ℕ
number_of digits = if length digits == 0 then None else within_most (digits_value 10 digits)

-- whether a unit is a front of this word
abbrev pub is_front_of : List ℕ → List ℕ → Bool
is_front_of word unit = starts_with nat_eq word unit

-- the seconds of a unit, a year of 365 days
unfoldable pub unit_seconds : List ℕ → Option ℕ
unit_seconds unit =
    if is_front_of (codes "seconds") unit then Some 1 else
    (if is_front_of (codes "minutes") unit then Some 60 else
    (if is_front_of (codes "hours") unit then Some 3600 else
    (if is_front_of (codes "days") unit then Some 86400 else
    (if is_front_of (codes "weeks") unit then Some 604800 else
    (if is_front_of (codes "years") unit then Some 31536000 else None)))))

-- the seconds of a number with a unit; no unit is seconds
unfoldable pub seconds_of : List ℕ → Option ℕ
seconds_of text =
    option_and_then (λ number. option_and_then (λ unit. within_most (number * unit)) (unit_seconds (unit_of text))) (number_of (digits_of text))

-- ---- archives

-- a step, which is at least one second
unfoldable pub step_of : List ℕ → Option ℕ
step_of text = option_and_then (λ step. if step == 0 then None else Some step) (seconds_of text)

-- how many points a history has: without a unit it is their number, and with one its seconds divided by the step
unfoldable pub points_of : ℕ → List ℕ → Option ℕ
points_of step text =
    if length (unit_of text) == 0 then number_of (digits_of text) else
    option_map (λ seconds. seconds / step) (seconds_of text)

abbrev pub is_colon : ℕ → Bool
is_colon b = b == 58

unfoldable pub archive_from : List ℕ → List ℕ → Option Archive
archive_from step history =
    option_and_then (λ s. option_map (λ p. record { step = s; points = p }) (points_of s history)) (step_of step)

-- the archive of `step:history`
unfoldable pub archive_of : List ℕ → Option Archive
archive_of text = option_and_then (λ at. archive_from (take at text) (drop (at + 1) text)) (position is_colon text)

abbrev pub is_comma : ℕ → Bool
is_comma b = b == 44

-- Archives in order of step, and in the order in which they are written where steps are the same: each stands
-- under its step and how many are written before it.
abbrev pub InOrder : Type 0
InOrder = List ((ℕ × ℕ) × Archive)

-- the archives with one more, the `n`th from 0 on
abbrev pub with_archive : InOrder → ℕ → Archive → InOrder
with_archive archives n archive = insert_entry place_cmp archives (archive.step, n) archive

unfoldable pub archives_from : InOrder → ℕ → List (List ℕ) → Option InOrder
archives_from archives n [] = Some archives
archives_from archives n (text ∷ more) = option_and_then (λ archive. archives_from (with_archive archives n archive) (n + 1) more) (archive_of (trimmed text))

-- the archives of retentions between commas, in order of step
unfoldable pub archives_of : List ℕ → Option (List Archive)
archives_of text = option_map (values_of) (archives_from [] 0 (slice_split is_comma text))

-- The span that a text writes.
use Rattle.std.specs.Prelude.{ℕ, ◌==◌, Bool, not, nat_le, List, slice_index, Result, Ok, Err, if◌then◌else◌}
use Rattle.std.specs.Option.{option_map_or}
use Rattle.std.specs.Str.Parse.{without_leading_sign}
use Rattle.time_range.specs.declared.fault.TimeFault.{TimeFault}
use Rattle.time_range.specs.declared.fault.TimeFault.TheVariants.{NotTime, TooLate}
use Rattle.time_range.specs.declared.span.Span.{Span}
use Rattle.time_range.specs.Spans.{seconds_of}

-- the latest moment, and the most seconds
abbrev pub latest : ℕ
latest = 4000000000

abbrev pub starts_with_plus : List ℕ → Bool
starts_with_plus text = slice_index text 0 == 43

-- a span of so many seconds, into the past or not
abbrev pub span_result : Bool → ℕ → Result Span TimeFault
span_result past seconds = if nat_le seconds latest then Ok (record { past = past; seconds = seconds }) else Err TooLate

-- an optional sign and spans; they lead into the past unless the sign is a plus
unfoldable pub span_of : List ℕ → Result Span TimeFault
span_of text = option_map_or (λ seconds. span_result (not (starts_with_plus text)) seconds) (seconds_of (without_leading_sign text)) (Err NotTime)

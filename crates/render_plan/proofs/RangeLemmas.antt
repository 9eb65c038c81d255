-- A span that is read is no longer than to the latest moment.
use Rattle.std.proofs.Common.{◌≡◌, ℕ, ◌≤◌, nat_le, Bool, true, false, cond, List, Option, Some, None, Ok, Err, refl, subst, arith}
use Rattle.std.specs.Option.{option_map_or}
use Rattle.std.specs.Str.Parse.{without_leading_sign}
use Rattle.std.proofs.lemmas.Bool.Decides.{nat_tests}
use Rattle.time_range.specs.SpanOf.{latest, span_of, span_result}
use Rattle.time_range.specs.Spans.{seconds_of}
use Rattle.time_range.specs.declared.fault.TimeFault.TheVariants.{NotTime, TooLate}
use Rattle.time_range.specs.declared.span.Span.{Span}

short_by : (past fits : Bool) (seconds : ℕ) (span : Span) → nat_le seconds latest ≡ fits
    → cond fits (Ok (record { past = past; seconds = seconds })) (Err TooLate) ≡ Ok span → span.seconds ≤ latest
short_by past false seconds span fits is = cc
short_by past true seconds span fits is =
    let same : record { past = past; seconds = seconds } ≡ span = cc in
    subst (λ (s : Span). s.seconds ≤ latest) same (grind (arith, nat_tests, fits))

short_of : (past : Bool) (read : Option ℕ) (span : Span) → option_map_or (λ (seconds : ℕ). span_result past seconds) read (Err NotTime) ≡ Ok span → span.seconds ≤ latest
short_of past None span is = cc
short_of past (Some seconds) span is = short_by past (nat_le seconds latest) seconds span refl is

pub span_is_short : (text : List ℕ) (span : Span) → span_of text ≡ Ok span → span.seconds ≤ latest
unfolding span_of
span_is_short text span is = short_of _ (seconds_of (without_leading_sign text)) span is

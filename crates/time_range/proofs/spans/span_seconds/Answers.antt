use Rattle.std.proofs.Common.{◌≡◌, ◌<◌, Some, length, ◌∙◌, ap, arith, rules, ◌*◌, ◌^◌, min}
use Rattle.std.specs.Str.Parse.{digits_value}
use Rattle.time_range.specs.Spans.{digits_of, unit_of}
use Rattle.time_range.specs.TimeUnits.{unit_seconds}
use Rattle.time_range.proofs.SpanLemmas.{span_is}
use Rattle.time_range.proofs.spans.span_seconds.Goals as goal

pub returns-clause-value : goal.returns-clause-value
returns-clause-value c =
    let some : 0 < length (digits_of c.args.span.now) = search (rules, arith) in
    let unit : Some c.in_ok-unit.unit ≡ unit_seconds (unit_of c.args.span.now) = search rules in
    let number : c.number_of.result ≡ min (digits_value 10 (digits_of c.args.span.now)) (2 ^ 100) = search rules in
    let product : c.cut.result ≡ min (c.number_of.result * c.in_ok-unit.unit) (2 ^ 100) = search rules in
    ap (λ n. Some n) (product ∙ ap (λ n. min (n * c.in_ok-unit.unit) (2 ^ 100)) number) ∙ span_is c.args.span.now c.in_ok-unit.unit some unit

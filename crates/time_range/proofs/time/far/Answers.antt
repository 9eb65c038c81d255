use Rattle.std.proofs.Common.{◌≡◌, Some, None, option_map, min, ◌^◌, ◌-ℤ◌, ◌==◌, pos, ap, ◌∙◌, true, false, ℤ, arith, rules}
use Rattle.std.specs.Str.Parse.{digits_value}
use Rattle.std.proofs.lemmas.Bool.Decides.{nat_tests}
use Rattle.time_range.specs.Columns.{fronts, kept}
use Rattle.time_range.specs.Spans.{seconds_of, spans_of}
use Rattle.time_range.specs.TimeOf.{time_result}
use Rattle.time_range.proofs.TimeLemmas.{far_back, far_none, far_on, moved_fails}
use Rattle.time_range.proofs.time.far.Goals as goal

pub returns-in_default : goal.returns-in_default
returns-in_default c = far_none (digits_value 10 c.args.digits.now) c.args.offset.now c.requires.far c.in_default.ensures.cases

pub returns-in_default-seconds_of : goal.returns-in_default-seconds_of
returns-in_default-seconds_of c =
    let none : None ≡ option_map (λ n. min n (2 ^ 100)) (seconds_of c.in-Some.spans.now) = search rules in
    moved_fails (pos (digits_value 10 c.args.digits.now)) c.args.offset.now c.in-Some.spans.now c.in-Some.sign.now c.in-Some.ensures.cases none

pub returns-then-sign-ne45 : goal.returns-then-sign-ne45
returns-then-sign-ne45 c =
    let some : Some c.in-Some-seconds_of.field-0 ≡ option_map (λ n. min n (2 ^ 100)) (seconds_of c.in-Some.spans.now) = search rules in
    let plus : (c.in-Some.sign.now == 45) ≡ false = grind (arith, nat_tests, c.if-sign-ne45.true) in
    far_on (digits_value 10 c.args.digits.now) c.args.offset.now c.in-Some.spans.now c.in-Some.sign.now c.in-Some-seconds_of.field-0 c.requires.far c.in-Some.ensures.cases plus some

pub returns : goal.returns
returns c =
    let some : Some c.in-Some-seconds_of.field-0 ≡ option_map (λ n. min n (2 ^ 100)) (seconds_of c.in-Some.spans.now) = search rules in
    let minus : (c.in-Some.sign.now == 45) ≡ true = grind (arith, nat_tests, c.if-sign-ne45.false) in
    let told : c.time_result.result ≡ time_result (Some c.difference.result) = search rules in
    let less : c.difference.result ≡ pos (kept (digits_value 10 c.args.digits.now) (fronts 0 (spans_of c.in-Some.spans.now))) -ℤ pos (2 ^ 100) = search rules in
    told ∙ (ap (λ (z : ℤ). time_result (Some z)) less
    ∙ far_back (digits_value 10 c.args.digits.now) c.args.offset.now c.in-Some.spans.now c.in-Some.sign.now c.in-Some-seconds_of.field-0 c.in-Some.ensures.cases minus some)

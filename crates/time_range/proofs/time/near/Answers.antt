use Rattle.std.proofs.Common.{◌≡◌, Some, None, option_map, min, ◌^◌, ◌==◌, ◌∙◌, true, false, FitsSigned, arith, rules}
use Rattle.std.specs.Int.{w128}
use Rattle.std.proofs.lemmas.Int.{to_z-of_z}
use Rattle.std.proofs.lemmas.Bool.Decides.{nat_tests}
use Rattle.time_range.specs.Spans.{seconds_of}
use Rattle.time_range.proofs.TimeLemmas.{moved_back, moved_fails, moved_none, moved_on}
use Rattle.time_range.proofs.time.near.Goals as goal

pub returns-in_default : goal.returns-in_default
returns-in_default c =
    let fits : FitsSigned w128 c.args.from = c.ranges.from in
    let told = simp to_z-of_z at c.time_result.ensures in
    told ∙ moved_none c.args.from c.args.offset.now c.in_default.ensures.cases

pub returns-in_default-seconds_of : goal.returns-in_default-seconds_of
returns-in_default-seconds_of c =
    let none : None ≡ option_map (λ n. min n (2 ^ 100)) (seconds_of c.in-Some.spans.now) = search rules in
    moved_fails c.args.from c.args.offset.now c.in-Some.spans.now c.in-Some.sign.now c.in-Some.ensures.cases none

pub returns-then-sign-eq45 : goal.returns-then-sign-eq45
returns-then-sign-eq45 c =
    let some : Some c.in-Some-seconds_of.seconds ≡ option_map (λ n. min n (2 ^ 100)) (seconds_of c.in-Some.spans.now) = search rules in
    let fits : FitsSigned w128 c.args.from = c.ranges.from in
    let minus : (c.in-Some.sign.now == 45) ≡ true = grind (arith, nat_tests, c.if-sign-eq45.true) in
    let told = simp to_z-of_z at c.before-then-sign-eq45.ensures in
    told
    ∙ moved_back c.args.from c.args.offset.now c.in-Some.spans.now c.in-Some.sign.now c.in-Some-seconds_of.seconds c.in-Some.ensures.cases minus c.requires some

pub returns : goal.returns
returns c =
    let some : Some c.in-Some-seconds_of.seconds ≡ option_map (λ n. min n (2 ^ 100)) (seconds_of c.in-Some.spans.now) = search rules in
    let fits : FitsSigned w128 c.args.from = c.ranges.from in
    let plus : (c.in-Some.sign.now == 45) ≡ false = grind (arith, nat_tests, c.if-sign-eq45.false) in
    let told = simp to_z-of_z at c.after.ensures in
    told
    ∙ moved_on c.args.from c.args.offset.now c.in-Some.spans.now c.in-Some.sign.now c.in-Some-seconds_of.seconds c.in-Some.ensures.cases plus c.requires some

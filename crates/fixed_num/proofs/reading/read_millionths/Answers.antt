use Rattle.std.proofs.Common.{◌≡◌, sym, ap, true, false, ◌∙◌}
use Rattle.std.specs.Str.Parse.{starts_with_minus}
use Rattle.fixed_num.specs.Read.{is_reached_within}
use Rattle.fixed_num.proofs.ReadLemmas.{millionths_none, millionths_some}
use Rattle.fixed_num.proofs.reading.read_millionths.Goals as goal

pub returns-in_default : goal.returns-in_default
returns-in_default c = rw c.fault_of.ensures (millionths_none c.args.text.now (sym c.in_default.ensures.value))

pub returns-then-not-is_within : goal.returns-then-not-is_within
returns-then-not-is_within c =
    let outside : is_reached_within 1000000 (starts_with_minus c.args.text.now) c.in-Some.reached ≡ false =
    sym (ap (λ negative. is_reached_within 1000000 negative c.in-Some.reached) c.starts_with_minus.ensures) ∙ (sym c.is_within.ensures ∙ c.if-not-is_within.true) in
    rw outside at (millionths_some c.args.text.now c.in-Some.reached (sym c.in-Some.ensures.value))

pub returns : goal.returns
returns c =
    let within : is_reached_within 1000000 (starts_with_minus c.args.text.now) c.in-Some.reached ≡ true =
    sym (ap (λ negative. is_reached_within 1000000 negative c.in-Some.reached) c.starts_with_minus.ensures) ∙ (sym c.is_within.ensures ∙ c.if-not-is_within.false) in
    rw within at (millionths_some c.args.text.now c.in-Some.reached (sym c.in-Some.ensures.value))

use Rattle.std.proofs.Common.{◌≡◌, ◌+ℤ◌, ◌*ℤ◌, FitsSigned, ap, ap₂, ◌∙◌, rules}
use Rattle.std.specs.Int.{int_div_euclid, int_rem_euclid, w128}
use Rattle.std.proofs.lemmas.Int.{to_z-of_z}
use Rattle.fixed_num.specs.Milli.{value_of}
use Rattle.series_funcs.proofs.QuotientLemmas.{both_are, found_is, whole_missing}
use Rattle.series_funcs.proofs.quotients.split_product.Goals as goal

pub returns-in_default : goal.returns-in_default
returns-in_default c =
    let number : FitsSigned w128 c.args.number = c.ranges.number in
    let by : FitsSigned w128 c.args.by = c.ranges.by in
    let divisor : FitsSigned w128 c.args.divisor = c.ranges.divisor in
    let told = simp to_z-of_z at c.whole_product.ensures in
    whole_missing c.args.number c.args.by c.args.divisor c.whole_product.result c.requires.some c.requires.room told c.in_default.is

pub returns : goal.returns
returns c =
    let number : FitsSigned w128 c.args.number = c.ranges.number in
    let by : FitsSigned w128 c.args.by = c.ranges.by in
    let divisor : FitsSigned w128 c.args.divisor = c.ranges.divisor in
    let told = simp to_z-of_z at c.whole_product.ensures in
    let whole = found_is (int_div_euclid c.args.number c.args.divisor *ℤ c.args.by) c.in-Some.whole c.whole_product.result told c.in-Some.is in
    let rest : c.rest_product.result ≡ int_div_euclid (int_rem_euclid c.args.number c.args.divisor *ℤ c.args.by) c.args.divisor = search rules in
    let whole_fits : FitsSigned w128 c.in-Some.whole = search rules in
    let rest_fits : FitsSigned w128 c.rest_product.result = search rules in
    c.narrow_sum.ensures
    ∙ ap value_of (ap₂ ◌+ℤ◌ (to_z-of_z w128 c.in-Some.whole whole_fits ∙ whole) (to_z-of_z w128 c.rest_product.result rest_fits ∙ rest) ∙ both_are c.args.number c.args.by c.args.divisor c.requires.some)

use Rattle.std.proofs.Common.{◌≡◌, ◌*ℤ◌, FitsSigned, ap₂, sym, subst, ◌∙◌, rules}
use Rattle.std.specs.Int.{int_div_euclid, int_rem_euclid, w128}
use Rattle.std.proofs.lemmas.Int.{to_z-of_z}
use Rattle.series_funcs.proofs.QuotientLemmas.{quotient_fits, rest_fits}
use Rattle.series_funcs.proofs.quotients.rest_product.Goals as goal

pub overflow_mul-rem_euclid : goal.overflow_mul-rem_euclid
overflow_mul-rem_euclid c =
    let fits : FitsSigned w128 c.rem_euclid.result = search rules in
    let is : c.rem_euclid.result ≡ int_rem_euclid c.args.number c.args.divisor = search rules in
    let factors = ap₂ ◌*ℤ◌ (to_z-of_z w128 c.rem_euclid.result fits ∙ is) (to_z-of_z w128 c.args.by c.ranges.by) in
    subst (FitsSigned w128) (sym factors) (rest_fits c.args.number c.args.by c.args.divisor c.requires.some c.requires.room)

pub returns : goal.returns
returns c =
    let fits : FitsSigned w128 c.rem_euclid.result = search rules in
    let is : c.rem_euclid.result ≡ int_rem_euclid c.args.number c.args.divisor = search rules in
    let factors = ap₂ ◌*ℤ◌ (to_z-of_z w128 c.rem_euclid.result fits ∙ is) (to_z-of_z w128 c.args.by c.ranges.by) in
    let room = rest_fits c.args.number c.args.by c.args.divisor c.requires.some c.requires.room in
    let product = to_z-of_z w128 _ (subst (FitsSigned w128) (sym factors) room) ∙ factors in
    let quotient = c.div_euclid.ensures ∙ ap₂ int_div_euclid product (to_z-of_z w128 c.args.divisor c.ranges.divisor) in
    to_z-of_z w128 c.div_euclid.result (subst (FitsSigned w128) (sym quotient) (quotient_fits w128 _ c.args.divisor c.requires.some room)) ∙ quotient

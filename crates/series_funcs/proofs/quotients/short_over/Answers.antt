use Rattle.std.proofs.Common.{ℤ, FitsSigned, Some, ap, ap₂, sym, subst, ◌∙◌}
use Rattle.std.specs.Int.{int_div_euclid, w64}
use Rattle.std.proofs.lemmas.Int.{to_z-of_z}
use Rattle.series_funcs.proofs.QuotientLemmas.{quotient_fits, short_is}
use Rattle.series_funcs.proofs.quotients.short_over.Goals as goal

pub returns : goal.returns
returns c =
    let n = c.args.number in
    let d = c.args.divisor in
    let quotient = c.div_euclid.ensures ∙ ap₂ int_div_euclid (to_z-of_z w64 n c.ranges.number) (to_z-of_z w64 d c.ranges.divisor) in
    let fits = subst (FitsSigned w64) (sym quotient) (quotient_fits w64 n d c.requires c.ranges.number) in
    ap (λ (z : ℤ). Some z) (c.milli_of.ensures ∙ to_z-of_z w64 c.div_euclid.result fits ∙ quotient) ∙ short_is n d c.requires c.ranges.number

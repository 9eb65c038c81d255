use Rattle.std.proofs.Common.{◌+ℤ◌, FitsSigned}
use Rattle.std.specs.Int.{w128}
use Rattle.std.proofs.lemmas.Int.{to_z-of_z}
use Rattle.series_funcs.proofs.QuotientLemmas.{sum_missing}
use Rattle.series_funcs.proofs.quotients.narrow_sum.Goals as goal

pub returns-in_default : goal.returns-in_default
returns-in_default c =
    let whole : FitsSigned w128 c.args.whole = c.ranges.whole in
    let rest : FitsSigned w128 c.args.rest = c.ranges.rest in
    let told = simp to_z-of_z at c.checked_add.ensures in
    sum_missing (c.args.whole +ℤ c.args.rest) c.checked_add.result told c.in_default.is

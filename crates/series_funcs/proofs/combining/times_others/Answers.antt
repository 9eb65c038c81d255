use Rattle.std.proofs.Common.{pos, ◌∙◌}
use Rattle.std.proofs.lemmas.List.{get_or_default}
use Rattle.series_funcs.proofs.ColumnLemmas.{product_stops}
use Rattle.series_funcs.proofs.combining.times_others.Goals as goal

pub returns-in_err-product : goal.returns-in_err-product
returns-in_err-product c =
    c.from_residual.ensures
    ∙ product_stops c.args.first c.args.others.now c.loop-factor.factor-index c.loop-factor.product _ c.loop-factor-test.true c.loop-factor.invariant
    (c.factor-item.is ∙ get_or_default c.args.others.now c.loop-factor.factor-index c.factor-item.result (pos 0) c.loop-factor-test.true) c.in_err-product.ensures

use Rattle.std.proofs.Common.{◌≡◌, [], ◌∷◌, Some, option_map}
use Rattle.series_set.specs.declared.grid.EvalFault.{EvalFault}
use Rattle.series_set.specs.declared.grid.EvalFault.TheVariants.{StepTooWide}
use Rattle.series_set.specs.Series.{SeriesValue}
use Rattle.series_set.specs.CommonGrid.{first_wide}
use Rattle.series_funcs.specs.Divided.{pairs_with}
use Rattle.series_funcs.proofs.EachLemmas.{if_err_at}
use Rattle.series_funcs.proofs.StepLemmas.{wide_more, wide_stops}
use Rattle.series_funcs.proofs.dividing.check_pairs.Goals as goal

pub returns-in_err-check_pair-clause-err : goal.returns-in_err-check_pair-clause-err
returns-in_err-check_pair-clause-err c =
    let all = c.args.dividends.now in
    let divisor = c.args.divisor.now in
    let fault = c.in_err-check_pair.field-0.0 in
    if_err_at (λ (fault : EvalFault). option_map StepTooWide (first_wide (pairs_with divisor all)) ≡ Some fault) _ fault c.from_residual.ensures.1
    (wide_stops (λ (s : SeriesValue). s ∷ divisor ∷ []) all c.loop-dividend.dividend-index c.dividend-item.result fault c.loop-dividend-test.true c.dividend-item.is c.loop-dividend.invariant c.in_err-check_pair.ensures.err)

pub loop-dividend-preserved : goal.loop-dividend-preserved
loop-dividend-preserved c =
    let divisor = c.args.divisor.now in
    wide_more (λ (s : SeriesValue). s ∷ divisor ∷ []) c.args.dividends.now c.loop-dividend.dividend-index c.dividend-item.result c.loop-dividend-test.true c.dividend-item.is c.loop-dividend.invariant c.in_ok-check_pair.ensures.ok

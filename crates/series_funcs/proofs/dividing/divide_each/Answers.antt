use Rattle.std.proofs.Common.{◌≡◌, ◌≢◌, [], ◌∷◌, ◌++◌, Ok, Err, ap, ◌∙◌, sym}
use Rattle.series_set.specs.declared.grid.EvalFault.{EvalFault}
use Rattle.series_set.specs.declared.grid.EvalFault.TheVariants.{NoMemory}
use Rattle.std.proofs.lemmas.List.Elements.{All-push}
use Rattle.series_funcs.specs.Combined.{IsSoonAfter}
use Rattle.series_funcs.specs.Divided.{divided}
use Rattle.series_funcs.specs.Each.{each_of}
use Rattle.series_funcs.proofs.EachLemmas.{each_more, each_stops, if_err_at}
use Rattle.series_funcs.proofs.RatioLemmas.{pair_soon}
use Rattle.series_funcs.proofs.dividing.divide_each.Goals as goal

pub returns-in_err-divided-clause-err : goal.returns-in_err-divided-clause-err
returns-in_err-divided-clause-err c =
    let f = divided c.args.divisor.now in
    let all = c.args.dividends.now in
    if_err_at (λ (fault : EvalFault). fault ≢ NoMemory → each_of f all ≡ Err fault) _ c.in_err-divided.field-0.0 c.from_residual-in_err-divided.ensures.1
    (λ other. each_stops f all c.loop-dividend.dividend-index c.dividend-item.result _ _ c.loop-dividend-test.true c.dividend-item.is c.loop-dividend.invariant.0 (c.in_err-divided.ensures.err other))

pub loop-dividend-preserved : goal.loop-dividend-preserved
loop-dividend-preserved c =
    let all = c.args.dividends.now in
    let divisor = c.args.divisor.now in
    let i = c.loop-dividend.dividend-index in
    let soon = pair_soon all i c.dividend-item.result divisor _ c.loop-dividend-test.true c.dividend-item.is c.in_ok-divided.ensures.bounds in (
      each_more (divided divisor) all i c.dividend-item.result _ _ c.loop-dividend-test.true c.dividend-item.is c.loop-dividend.invariant.0 c.in_ok-divided.ensures.ok
          ∙ ap Ok (sym c.in_ok-push.ensures.items),
      rw c.in_ok-push.ensures.items (All-push (IsSoonAfter (all ++ divisor ∷ [])) c.loop-dividend.quotients.items _ c.loop-dividend.invariant.1 soon),
    )

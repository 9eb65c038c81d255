use Rattle.std.proofs.Common.{◌≡◌, ◌≢◌, Ok, Err, ap, ◌∙◌, sym}
use Rattle.series_set.specs.declared.grid.EvalFault.{EvalFault}
use Rattle.series_set.specs.declared.grid.EvalFault.TheVariants.{NoMemory}
use Rattle.series_funcs.specs.Each.{each_of}
use Rattle.series_funcs.specs.Moved.{summarized}
use Rattle.series_funcs.proofs.EachLemmas.{each_more, each_stops, if_err_at}
use Rattle.series_funcs.proofs.shaping.summarize_each.Goals as goal

pub returns-in_err-summarized-clause-err : goal.returns-in_err-summarized-clause-err
returns-in_err-summarized-clause-err c =
    let f = summarized c.args.step c.args.gather c.args.call.now.function.now c.args.call.now.tail.now in
    let all = c.args.set.now in
    if_err_at (λ (fault : EvalFault). fault ≢ NoMemory → each_of f all ≡ Err fault) _ c.in_err-summarized.field-0.0 c.from_residual-in_err-summarized.ensures.1
    (λ other. each_stops f all c.loop-series.series-index c.series-item.result _ _ c.loop-series-test.true c.series-item.is c.loop-series.invariant (c.in_err-summarized.ensures.err other))

pub loop-series-preserved : goal.loop-series-preserved
loop-series-preserved c =
    let f = summarized c.args.step c.args.gather c.args.call.now.function.now c.args.call.now.tail.now in
    each_more f c.args.set.now c.loop-series.series-index c.series-item.result _ _ c.loop-series-test.true c.series-item.is c.loop-series.invariant c.in_ok-summarized.ensures.ok
    ∙ ap Ok (sym c.in_ok-push.ensures.items)

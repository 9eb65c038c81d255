use Rattle.std.proofs.Common.{◌≡◌, ◌≤◌, ◌-◌, List, ℤ, Option, length, take, drop, ap, arith}
use Rattle.series_set.specs.Average.{known}
use Rattle.series_set.specs.Series.{most_values}
use Rattle.series_set.proofs.GroupLemmas.{if_ok_more}
use Rattle.series_funcs.proofs.SummaryLemmas.{length-run}
use Rattle.series_funcs.proofs.summary.put_run.Goals as goal

pub returns-clause-few : goal.returns-clause-few
returns-clause-few c =
    let all = c.values.result.now in
    let i = c.args.from in
    let j = c.args.until in
    if_ok_more (λ _. c.put_known.new.gathered.items ≡ known (take (j - i) (drop i all))) (λ _. length c.put_known.new.gathered.items ≤ most_values) c.put_known.result c.put_known.ensures
    (λ done same. omega (arith, ap length same, length-run all i j, ap (λ (values : List (Option ℤ)). length values) c.values.ensures.value, c.values.ensures.legal.few))

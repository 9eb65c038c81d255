use Rattle.std.proofs.Common.{◌≤◌, ◌^◌, arith}
use Rattle.series_set.proofs.SumLemmas.{average_is}
use Rattle.series_set.proofs.averaging.average_known.Goals as goal

pub returns : goal.returns
returns c =
    let total = c.total_known-total.ensures in
    let few : c.total_known-total.result.count ≤ 2 ^ 26 = omega (arith, total.few, c.requires) in
    average_is _ c.total_known-total.result.count c.total_known-total.result.sum c.quotient.result c.narrow.result total.sum total.count total.within (omega (arith, c.if-total-eq0.false)) few c.quotient.ensures c.narrow.ensures.exactly

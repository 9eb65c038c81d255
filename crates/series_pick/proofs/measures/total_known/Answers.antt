use Rattle.std.proofs.Common.{◌≡◌, ℤ, ◌+◌, ◌≤◌, ◌^◌, None, get_or, to_z, ◌∙◌, sym, subst, arith}
use Rattle.std.specs.Int.{w128}
use Rattle.std.proofs.lemmas.List.{get_or_default}
use Rattle.series_set.proofs.SumLemmas.{Totals, sum_added, totals_missing, totals_known}
use Rattle.series_pick.proofs.measures.total_known.Goals as goal

pub loop-value-preserved-in_default : goal.loop-value-preserved-in_default
loop-value-preserved-in_default c =
    let values = c.args.values.now in
    let i = c.loop-value.value-index in
    let read : c.get.result ≡ get_or values i None = c.get.ensures ∙ c.value-item.is ∙ get_or_default values i c.value-item.result None c.loop-value-test.true in
    totals_missing values i c.loop-value.count _ c.loop-value-test.true (sym read ∙ c.in_default.is) c.loop-value.invariant

pub loop-value-preserved : goal.loop-value-preserved
loop-value-preserved c =
    let fits = c.wide-sum.ensures.fits in
    let so_far = c.loop-value.invariant in
    let values = c.args.values.now in
    let i = c.loop-value.value-index in
    let read : c.get.result ≡ get_or values i None = c.get.ensures ∙ c.value-item.is ∙ get_or_default values i c.value-item.result None c.loop-value-test.true in
    let done = totals_known values i c.loop-value.count (to_z w128 c.loop-value.sum-bits) c.in-Some.known c.loop-value-test.true (sym read ∙ c.in-Some.is) fits so_far in
    let few : c.loop-value.count + 1 ≤ 2 ^ 26 = omega (arith, c.requires, so_far.1.1.0, c.loop-value-test.true) in
    let same = sum_added (c.loop-value.count + 1) (to_z w128 c.loop-value.sum-bits) c.in-Some.known c.wide-sum.result few done.1.1.1 fits (c.wide-sum.ensures.value) in
    subst (λ (z : ℤ). Totals c.args.values.now (c.loop-value.value-index + 1) z (c.loop-value.count + 1)) (sym same) done

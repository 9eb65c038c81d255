use Rattle.std.proofs.Common.{◌≡◌, ◌≤◌, ◌<◌, length, ap, sym, subst, ◌∙◌}
use Rattle.std.specs.Int.{div_ceil}
use Rattle.series_set.specs.Series.{SeriesValue}
use Rattle.series_set.specs.Thinned.{grouped}
use Rattle.series_set.proofs.GroupLemmas.{if_ok_more, thinned_few}
use Rattle.series_set.proofs.thinning.thin.Goals as goal

pub returns-clause-few : goal.returns-clause-few
returns-clause-few c =
    let s = c.args.series in
    let many : c.args.most < length s.values = rw c.values.ensures.value at c.if-count-most.false in
    let is = c.div_ceil.ensures ∙ ap (λ (values : _). div_ceil (length values) c.args.most) c.values.ensures.value in
    let few = thinned_few c.args.most c.div_ceil.result s c.requires.some many is in
    if_ok_more (λ (thin : SeriesValue). thin ≡ grouped c.div_ceil.result s) (λ (thin : SeriesValue). length thin.values ≤ c.args.most) c.grouped.result c.grouped.ensures (λ thin same. subst (λ (t : SeriesValue). length t.values ≤ c.args.most) (sym same) few)

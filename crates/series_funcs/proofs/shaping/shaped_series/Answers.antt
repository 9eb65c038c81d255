use Rattle.std.proofs.Common.{length, sym, ap, subst, ◌∙◌}
use Rattle.series_set.specs.Series.{IsSeries, SeriesValue}
use Rattle.series_funcs.proofs.ShapeLemmas.{length-shaped, same_length_is}
use Rattle.series_funcs.proofs.shaping.shaped_series.Goals as goal

pub with_values-requires : goal.with_values-requires
with_values-requires c =
    let values = c.in_ok-values.values.items in
    let many = ap length c.in_ok-values.ensures ∙ length-shaped c.args.kind.now _ c.take_values.result.items ∙ ap length c.take_values.ensures.values in
    subst (λ (left : SeriesValue). IsSeries (record left { values = values })) (sym c.take_values.ensures.left) (same_length_is c.args.series values c.take_values.ensures.legal many)

use Rattle.std.proofs.Common.{◌∷◌, [], ◌++◌, take, sym, ap, ◌∙◌}
use Rattle.std.proofs.lemmas.List.{take_more}
use Rattle.series_set.specs.Series.{SeriesValue}
use Rattle.series_funcs.specs.Regrouped.{group_text, groups_by}
use Rattle.series_funcs.proofs.GroupedLemmas.{groups_none}
use Rattle.series_funcs.proofs.regrouping.groups_of.Goals as goal

pub loop-series-init : goal.loop-series-init
loop-series-init c = c.new-groups.ensures.empty ∙ sym (groups_none (λ s. group_text c.args.kind.now s.path))

pub loop-series-preserved : goal.loop-series-preserved
loop-series-preserved c =
    let by = λ (s : SeriesValue). group_text c.args.kind.now s.path in
    let before = take c.loop-series.series-index c.args.set.now in
    let own = ap by c.in_ok-copy.ensures ∙ ap (group_text c.args.kind.now) (sym c.path.ensures) ∙ sym c.in_ok-name.ensures in
    c.in_ok-add_to_group.ensures by before own c.loop-series.invariant
    ∙ ap (λ (s : SeriesValue). groups_by by (before ++ s ∷ [])) (c.in_ok-copy.ensures ∙ c.series-item.is)
    ∙ ap (groups_by by) (sym (take_more c.args.set.now c.loop-series.series-index c.series-item.result c.loop-series-test.true))

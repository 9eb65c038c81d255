use Rattle.series_fetch.proofs.CutLemmas.{cuts_in_order, part_from, part_rises, values_of_stretch}
use Rattle.series_fetch.proofs.points.between.Goals as goal

pub slice_bounds-result-count : goal.slice_bounds-result-count
slice_bounds-result-count c = cuts_in_order _ _ _ _ _ c.count_before-from.ensures c.count_before-until.ensures c.requires.order

pub slice_bounds-result-start : goal.slice_bounds-result-start
slice_bounds-result-start c = cuts_in_order _ _ _ _ _ c.count_before-from.ensures c.count_before-until.ensures c.requires.order

pub returns-clause-rising : goal.returns-clause-rising
returns-clause-rising c = part_rises _ _ _ c.requires.rising

pub returns-clause-from : goal.returns-clause-from
returns-clause-from c = part_from _ _ _ _ c.count_before-from.ensures

pub returns-clause-same : goal.returns-clause-same
returns-clause-same c = λ step bucket some from until.
    values_of_stretch _ _ _ _ _ step bucket c.count_before-from.ensures c.count_before-until.ensures
    (cuts_in_order _ _ _ _ _ c.count_before-from.ensures c.count_before-until.ensures c.requires.order) some from until

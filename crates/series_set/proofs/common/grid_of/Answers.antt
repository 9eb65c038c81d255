use Rattle.std.proofs.Common.{◌≤◌, sym, subst, ◌∙◌}
use Rattle.series_set.specs.declared.grid.Grid.{Grid}
use Rattle.series_set.specs.CommonGrid.{EndsSoonAfter, IsWhole}
use Rattle.series_set.proofs.GridLemmas.{ends_in_order, hull_soon, own_grid_is, widened_is, widened_soon}
use Rattle.series_set.proofs.common.grid_of.Goals as goal

pub returns-then-all_have_grid-clause-whole : goal.returns-then-all_have_grid-clause-whole
returns-then-all_have_grid-clause-whole c = own_grid_is _ c.args.series.now c.requires.some c.requires.step.some (sym c.all_have_grid.ensures ∙ c.if-all_have_grid.true)

pub returns-then-all_have_grid-clause-late : goal.returns-then-all_have_grid-clause-late
returns-then-all_have_grid-clause-late c = hull_soon c.args.series.now c.greatest_end.result c.requires.some c.greatest_end.ensures.value

pub returns-clause-whole : goal.returns-clause-whole
returns-clause-whole c =
    let order : c.least_start.result ≤ c.greatest_end.result = rw (c.least_start.ensures, c.greatest_end.ensures.value) (ends_in_order c.args.series.now c.requires.some) in
    subst IsWhole (sym c.widened.ensures) (widened_is (record { start = c.least_start.result; end = c.greatest_end.result; step = c.args.step }) c.requires.step.some order)

pub returns-clause-late : goal.returns-clause-late
returns-clause-late c =
    subst (λ (grid : Grid). EndsSoonAfter c.args.series.now grid.end) (sym c.widened.ensures)
    (widened_soon c.args.series.now (record { start = c.least_start.result; end = c.greatest_end.result; step = c.args.step }) c.requires.some c.requires.step.some c.requires.step.short c.greatest_end.ensures.value)

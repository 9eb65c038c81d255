use Rattle.std.proofs.Common.{sym, ◌∙◌, ap}
use Rattle.std.specs.List.{list_all}
use Rattle.series_set.specs.CommonGrid.{has_grid}
use Rattle.series_funcs.proofs.ColumnLemmas.{all_on_own}
use Rattle.series_funcs.proofs.combining.combined_values.Goals as goal

pub returns-then-all_have_grid : goal.returns-then-all_have_grid
returns-then-all_have_grid c =
    let all = ap (list_all (has_grid c.args.grid.now)) (sym c.as_slice.ensures) ∙ sym c.all_have_grid.ensures ∙ c.if-all_have_grid.true in
    let own = all_on_own c.args.grid.now c.args.set.now c.requires.grid.some all in
    rw own (rw (c.as_slice-then-all_have_grid.ensures, c.value_count.ensures) at c.combined_columns.ensures)

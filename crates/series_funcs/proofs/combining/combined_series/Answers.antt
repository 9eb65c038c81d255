use Rattle.std.proofs.Common.{sym, subst}
use Rattle.series_funcs.specs.Combined.{IsSoonAfter}
use Rattle.series_funcs.proofs.ColumnLemmas.{combined_soon, grid_is_early}
use Rattle.series_funcs.proofs.combining.combined_series.Goals as goal

pub combined_on-requires-clause-early : goal.combined_on-requires-clause-early
combined_on-requires-clause-early c = grid_is_early c.args.set.now c.in_ok-grid.grid c.requires.series c.in_ok-grid.ensures.late

pub returns-clause-bounds : goal.returns-clause-bounds
returns-clause-bounds c =
    subst (IsSoonAfter c.args.set.now) (sym c.in_ok-series.ensures)
    (combined_soon c.args.kind c.args.set.now c.args.name.now c.args.path.now c.in_ok-grid.grid c.in_ok-grid.ensures.grid (sym c.in_ok-grid.ensures.value) c.in_ok-grid.ensures.late)

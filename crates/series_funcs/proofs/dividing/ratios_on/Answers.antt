use Rattle.std.proofs.Common.{sym, ◌∙◌}
use Rattle.series_funcs.proofs.RatioLemmas.{on_own}
use Rattle.series_funcs.proofs.dividing.ratios_on.Goals as goal

pub returns-then-has_grid-2 : goal.returns-then-has_grid-2
returns-then-has_grid-2 c =
    let grid = c.args.grid.now in
    let first = on_own c.args.dividend.now grid c.requires.grid.some (sym c.has_grid.ensures ∙ c.if-has_grid.true) in
    let second = on_own c.args.divisor.now grid c.requires.grid.some (sym c.has_grid-then-has_grid.ensures ∙ c.if-has_grid-2.true) in
    rw (first, second) (rw c.value_count-count.ensures at c.ratios.ensures)

use Rattle.std.proofs.Common.{[], ◌∷◌, sym, subst}
use Rattle.series_funcs.specs.Combined.{IsSoonAfter}
use Rattle.series_funcs.proofs.ColumnLemmas.{grid_is_early}
use Rattle.series_funcs.proofs.RatioLemmas.{divided_soon}
use Rattle.series_funcs.proofs.dividing.divided.Goals as goal

pub divided_on-requires-clause-early : goal.divided_on-requires-clause-early
divided_on-requires-clause-early c = grid_is_early (c.args.dividend.now ∷ c.args.divisor.now ∷ []) c.in_ok-grid.grid c.requires c.in_ok-grid.ensures.late

pub returns-clause-bounds : goal.returns-clause-bounds
returns-clause-bounds c =
    subst (IsSoonAfter (c.args.dividend.now ∷ c.args.divisor.now ∷ [])) (sym c.in_ok-quotient.ensures)
    (divided_soon c.args.dividend.now c.args.divisor.now c.in_ok-grid.grid c.in_ok-grid.ensures.grid c.in_ok-grid.ensures.ok c.in_ok-grid.ensures.late)

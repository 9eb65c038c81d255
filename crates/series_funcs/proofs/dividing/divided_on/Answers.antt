use Rattle.std.proofs.Common.{length, ap, ◌∙◌}
use Rattle.series_set.specs.CommonGrid.{value_count}
use Rattle.series_set.specs.OnGrid.{on_grid}
use Rattle.series_set.proofs.PlaceLemmas.{gridded_is}
use Rattle.series_funcs.proofs.RatioLemmas.{length-ratios}
use Rattle.series_funcs.proofs.dividing.divided_on.Goals as goal

pub from_legal-requires : goal.from_legal-requires
from_legal-requires c =
    let grid = c.args.grid.now in
    gridded_is _ _ grid c.in_ok-values.values.items c.requires.grid c.requires.early
    (ap length c.in_ok-values.ensures ∙ length-ratios (on_grid c.args.dividend.now grid) (on_grid c.args.divisor.now grid) (value_count grid))

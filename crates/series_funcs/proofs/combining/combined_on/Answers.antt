use Rattle.std.proofs.Common.{length, ap, ◌∙◌}
use Rattle.series_set.specs.CommonGrid.{value_count}
use Rattle.series_set.proofs.PlaceLemmas.{gridded_is}
use Rattle.series_funcs.specs.Combined.{all_on}
use Rattle.series_funcs.proofs.ColumnLemmas.{length-combined_columns}
use Rattle.series_funcs.proofs.combining.combined_on.Goals as goal

pub from_legal-requires : goal.from_legal-requires
from_legal-requires c =
    gridded_is _ _ c.args.grid.now c.in_ok-values.values.items c.requires.grid c.requires.early
    (ap length c.in_ok-values.ensures ∙ length-combined_columns c.args.kind (all_on c.args.set.now c.args.grid.now) (value_count c.args.grid.now))

use Rattle.std.proofs.Common.{◌≡◌, ◌≤◌, length, ap, sym, ◌∙◌, arith}
use Rattle.std.proofs.lemmas.List.FromFn.{length-map-range_with_len}
use Rattle.series_set.specs.CommonGrid.{value_count}
use Rattle.series_set.specs.OnGrid.{bucket_value, on_grid}
use Rattle.series_set.specs.Series.{SeriesValue}
use Rattle.series_set.proofs.GridLemmas.{agrees}
use Rattle.series_set.proofs.GroupLemmas.{if_ok_more}
use Rattle.series_set.proofs.OwnGridLemmas.{own_grid_stays}
use Rattle.series_set.proofs.PlaceLemmas.{gridded_is}
use Rattle.series_set.proofs.regrid.on_grid.Goals as goal

pub from_legal-requires : goal.from_legal-requires
from_legal-requires c =
    gridded_is _ _ c.args.grid.now c.in_ok-values.values.items c.requires.grid c.requires.early
    (ap length c.in_ok-values.ensures ∙ length-map-range_with_len (bucket_value c.args.series.now c.args.grid.now) 0 (value_count c.args.grid.now))

pub returns-then-has_grid : goal.returns-then-has_grid
returns-then-has_grid c =
    let s = c.args.series.now in
    let grid = c.args.grid.now in
    let is = sym c.has_grid.ensures ∙ c.if-has_grid.true in
    let some : 1 ≤ s.step = omega (arith, c.requires.grid.some, (agrees grid s is).step) in
    if_ok_more (λ (moved : SeriesValue). moved ≡ s) (λ (moved : SeriesValue). moved ≡ on_grid s grid) c.copy.result c.copy.ensures (λ moved same. same ∙ sym (own_grid_stays s grid some is))

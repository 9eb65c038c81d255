use Rattle.std.proofs.Common.{arith, ap, length}
use Rattle.series_funcs.proofs.ColumnLemmas.{columns_more, length-known_column}
use Rattle.series_funcs.proofs.combining.combined_columns.Goals as goal

pub combined_known-requires : goal.combined_known-requires
combined_known-requires c =
    omega (arith, ap length c.deref.ensures.value, ap length c.in_ok-gather_known.ensures, length-known_column c.args.series.now c.loop-place.place, c.requires)

pub loop-place-preserved : goal.loop-place-preserved
loop-place-preserved c =
    rw (c.in_ok-push.ensures.items, c.loop-place.invariant, c.of.ensures, c.combined_known.ensures, c.deref.ensures.value, c.in_ok-gather_known.ensures)
    (columns_more c.args.kind c.args.series.now c.loop-place.place)

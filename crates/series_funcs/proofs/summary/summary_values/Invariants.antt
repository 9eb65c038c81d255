use Rattle.std.proofs.Common.{◌≡◌, ◌+◌, ◌*◌, map}
use Rattle.std.specs.List.{range_with_len}
use Rattle.series_set.specs.OnGrid.{IsPlaceOf}
use Rattle.series_funcs.specs.Moved.{summary_at}
use Rattle.series_funcs.proofs.summary.summary_values.Given as goal

abbrev pub invariant-loop-bucket : goal.invariant-loop-bucket
invariant-loop-bucket l =
    (l.limit ≡ l.grid.start + l._bucket * l.grid.step)
    × (IsPlaceOf l.series l.limit l.from
    × (l.values.items ≡ map (summary_at l.gather l.series l.grid) (range_with_len 0 l._bucket)))

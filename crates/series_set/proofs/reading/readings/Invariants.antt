use Rattle.std.proofs.Common.{◌≡◌, ◌++◌, reverse, length}
use Rattle.series_set.proofs.reading.readings.Given as goal

abbrev pub invariant-loop-value : goal.invariant-loop-value
invariant-loop-value l = l.values.items ++ reverse l.readings.items ≡ l.fn.values.items

abbrev pub decreases-loop-value : goal.decreases-loop-value
decreases-loop-value l = length l.values.items

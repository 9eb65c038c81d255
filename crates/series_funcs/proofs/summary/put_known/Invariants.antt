use Rattle.std.proofs.Common.{◌≡◌, take}
use Rattle.series_set.specs.Average.{known}
use Rattle.series_funcs.proofs.summary.put_known.Given as goal

abbrev pub invariant-loop-value : goal.invariant-loop-value
invariant-loop-value l = l.gathered.items ≡ known (take l.value-index l.values)

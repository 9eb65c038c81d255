use Rattle.std.proofs.Common.{◌≡◌, take}
use Rattle.series_set.specs.Average.{known}
use Rattle.series_funcs.specs.Combined.{all_on, column}
use Rattle.series_funcs.proofs.combining.gather_bucket.Given as goal

abbrev pub invariant-loop-one : goal.invariant-loop-one
invariant-loop-one l = l.gathered.items ≡ known (column (all_on (take l.one-index l.series) l.grid) l.bucket)

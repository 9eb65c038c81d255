use Rattle.std.proofs.Common.{◌≡◌, map}
use Rattle.std.specs.Fork.{slice_chunk}
use Rattle.std.specs.List.{range_with_len}
use Rattle.series_set.specs.Average.{average, known}
use Rattle.series_set.proofs.thinning.group_averages.Given as goal

abbrev pub invariant-loop-n : goal.invariant-loop-n
invariant-loop-n l = l.averages.items ≡ map (λ n. average (known (slice_chunk l.values l.size n))) (range_with_len 0 l.n)

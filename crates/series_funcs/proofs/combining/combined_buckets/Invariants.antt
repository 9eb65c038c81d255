use Rattle.std.proofs.Common.{◌≡◌, map}
use Rattle.std.specs.List.{range_with_len}
use Rattle.series_funcs.specs.Combined.{all_on, column, combined}
use Rattle.series_funcs.proofs.combining.combined_buckets.Given as goal

abbrev pub invariant-loop-bucket : goal.invariant-loop-bucket
invariant-loop-bucket l = l.values.items ≡ map (λ place. combined l.kind (column (all_on l.series l.grid) place)) (range_with_len 0 l.bucket)

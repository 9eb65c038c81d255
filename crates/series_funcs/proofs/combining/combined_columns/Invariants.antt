use Rattle.std.proofs.Common.{◌≡◌}
use Rattle.series_funcs.specs.Combined.{combined, column}
use Rattle.std.proofs.Common.{map}
use Rattle.std.specs.List.{range_with_len}
use Rattle.series_funcs.proofs.combining.combined_columns.Given as goal

abbrev pub invariant-loop-place : goal.invariant-loop-place
invariant-loop-place l = l.values.items ≡ map (λ place. combined l.kind (column l.series place)) (range_with_len 0 l.place)

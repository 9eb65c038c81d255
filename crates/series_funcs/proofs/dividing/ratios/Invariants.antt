use Rattle.std.proofs.Common.{◌≡◌, map}
use Rattle.std.specs.List.{range_with_len}
use Rattle.series_funcs.specs.Combined.{value_at}
use Rattle.series_funcs.specs.Divided.{ratio_of}
use Rattle.series_funcs.proofs.dividing.ratios.Given as goal

abbrev pub invariant-loop-place : goal.invariant-loop-place
invariant-loop-place l = l.values.items ≡ map (λ place. ratio_of (value_at place l.dividend) (value_at place l.divisor)) (range_with_len 0 l.place)

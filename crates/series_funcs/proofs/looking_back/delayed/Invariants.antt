use Rattle.std.proofs.Common.{◌≡◌, map}
use Rattle.std.specs.List.{range_with_len}
use Rattle.series_funcs.specs.Shaped.{delayed_at}
use Rattle.series_funcs.proofs.looking_back.delayed.Given as goal

abbrev pub invariant-loop-place : goal.invariant-loop-place
invariant-loop-place l = l.later.items ≡ map (delayed_at l.places l.values) (range_with_len 0 l.place)

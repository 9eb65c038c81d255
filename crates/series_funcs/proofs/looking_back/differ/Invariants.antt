use Rattle.std.proofs.Common.{◌≡◌}
use Rattle.series_funcs.specs.Shaped.{before, derivative_at}
use Rattle.series_funcs.proofs.PlaceByPlace.{Placed}
use Rattle.series_funcs.proofs.looking_back.differ.Given as goal

abbrev pub invariant-loop-place : goal.invariant-loop-place
invariant-loop-place l = Placed (derivative_at l.initial.values.items) l.initial.values.items l.values.items l.place × (l.before ≡ before l.initial.values.items l.place)

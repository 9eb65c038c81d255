use Rattle.std.proofs.Common.{◌≡◌}
use Rattle.series_funcs.specs.Shaped.{before}
use Rattle.series_funcs.proofs.BackLemmas.{risen_at}
use Rattle.series_funcs.proofs.PlaceByPlace.{Placed}
use Rattle.series_funcs.proofs.looking_back.rise.Given as goal

abbrev pub invariant-loop-place : goal.invariant-loop-place
invariant-loop-place l = Placed (risen_at l.initial.values.items) l.initial.values.items l.values.items l.place × (l.before ≡ before l.initial.values.items l.place)

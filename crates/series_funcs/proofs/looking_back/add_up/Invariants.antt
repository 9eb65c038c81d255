use Rattle.series_funcs.specs.Shaped.{integral_at}
use Rattle.series_funcs.proofs.PlaceByPlace.{Placed}
use Rattle.series_funcs.proofs.BackLemmas.{SumsUpTo}
use Rattle.series_funcs.proofs.looking_back.add_up.Given as goal

abbrev pub invariant-loop-place : goal.invariant-loop-place
invariant-loop-place l = Placed (integral_at l.initial.values.items) l.initial.values.items l.values.items l.place × SumsUpTo l.initial.values.items l.place l.sum

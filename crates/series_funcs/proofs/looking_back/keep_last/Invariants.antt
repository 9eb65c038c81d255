use Rattle.series_funcs.specs.Shaped.{kept_at}
use Rattle.series_funcs.proofs.GapLemmas.{Fills}
use Rattle.series_funcs.proofs.PlaceByPlace.{Placed}
use Rattle.series_funcs.proofs.looking_back.keep_last.Given as goal

abbrev pub invariant-loop-place : goal.invariant-loop-place
invariant-loop-place l = Placed (kept_at l.most l.initial.values.items) l.initial.values.items l.values.items l.place × Fills l.most l.initial.values.items l.place l.last l.in_gap l.fill

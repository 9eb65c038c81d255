use Rattle.std.proofs.Common.{◌≡◌, take}
use Rattle.series_funcs.specs.Shaped.{change_at, last_known}
use Rattle.series_funcs.proofs.PlaceByPlace.{Placed}
use Rattle.series_funcs.proofs.looking_back.tell_changes.Given as goal

abbrev pub invariant-loop-place : goal.invariant-loop-place
invariant-loop-place l = Placed (change_at l.initial.values.items) l.initial.values.items l.values.items l.place × (l.last ≡ last_known (take l.place l.initial.values.items))

use Rattle.std.proofs.Common.{◌≡◌, take, map}
use Rattle.series_fetch.proofs.points.values_of.Given as goal

abbrev pub invariant-loop-point : goal.invariant-loop-point
invariant-loop-point l = l.known.items ≡ map (λ p. p.1) (take l.point-index l.points)

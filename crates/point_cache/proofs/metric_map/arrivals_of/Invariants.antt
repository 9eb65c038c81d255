use Rattle.point_cache.specs.Kept.{AreArrivals}
use Rattle.point_cache.proofs.metric_map.arrivals_of.Given as goal

-- those before the place
abbrev pub invariant-loop-place : goal.invariant-loop-place
invariant-loop-place l = AreArrivals l.entries.entries l.place l.all.items

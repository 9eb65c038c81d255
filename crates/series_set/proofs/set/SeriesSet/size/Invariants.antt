use Rattle.std.proofs.Common.{◌≡◌, take}
use Rattle.series_set.specs.Sizes.{size_of_all}
use Rattle.series_set.proofs.set.SeriesSet.size.Given as goal

abbrev pub invariant-loop-series : goal.invariant-loop-series
invariant-loop-series l = l.size ≡ size_of_all (take l.series-index l.self)

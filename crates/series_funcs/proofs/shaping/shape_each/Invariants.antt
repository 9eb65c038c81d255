use Rattle.std.proofs.Common.{◌≡◌, map}
use Rattle.series_funcs.specs.Shaped.{shaped_series}
use Rattle.series_funcs.proofs.shaping.shape_each.Given as goal

abbrev pub invariant-loop-series : goal.invariant-loop-series
invariant-loop-series l = l.shaped.items ≡ map (shaped_series l.kind l.call.function.now l.call.tail.now) l.yielded

use Rattle.std.proofs.Common.{◌≡◌, filter, map}
use Rattle.series_funcs.specs.Moved.{shifted, stays}
use Rattle.series_funcs.proofs.shaping.shift_each.Given as goal

abbrev pub invariant-loop-series : goal.invariant-loop-series
invariant-loop-series l = l.moved.items ≡ map (shifted l.past l.seconds l.call.function.now l.call.tail.now) (filter (stays l.past l.seconds) l.yielded)

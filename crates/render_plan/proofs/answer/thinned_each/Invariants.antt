use Rattle.std.proofs.Common.{◌≡◌, map}
use Rattle.series_set.specs.Thinned.{thinned}
use Rattle.render_plan.proofs.answer.thinned_each.Given as goal

abbrev pub invariant-loop-series : goal.invariant-loop-series
invariant-loop-series l = l.answer.items ≡ map (thinned l.most) l.yielded

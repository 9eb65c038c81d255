use Rattle.std.proofs.Common.{◌≤◌, drop}
use Rattle.series_set.specs.Series.{widest_step}
use Rattle.series_set.proofs.WalkLemmas.{Walks}
use Rattle.series_set.proofs.common.common_step.Given as goal

abbrev pub invariant-loop-one : goal.invariant-loop-one
invariant-loop-one l = Walks l.series l.step (drop l.one-index l.series) × ((1 ≤ l.step) × (l.step ≤ widest_step))

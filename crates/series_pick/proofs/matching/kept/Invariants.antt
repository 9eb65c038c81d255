use Rattle.std.proofs.Common.{◌≡◌, filter}
use Rattle.series_pick.specs.Chosen.{is_kept}
use Rattle.series_pick.proofs.matching.kept.Given as goal

abbrev pub invariant-loop-one : goal.invariant-loop-one
invariant-loop-one l = (l.kept.items ≡ filter (is_kept l.keep l.pattern) l.yielded) × (l.search ≡ l.pattern)

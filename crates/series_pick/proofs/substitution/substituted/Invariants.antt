use Rattle.std.proofs.Common.{◌≡◌, map}
use Rattle.series_pick.specs.Chosen.{renamed_by_pattern}
use Rattle.series_pick.proofs.substitution.substituted.Given as goal

abbrev pub invariant-loop-one : goal.invariant-loop-one
invariant-loop-one l = (l.named.items ≡ map (renamed_by_pattern l.pattern l.fn.replacement) l.yielded) × (l.search ≡ l.pattern)

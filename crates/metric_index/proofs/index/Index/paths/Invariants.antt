use Rattle.std.proofs.Common.{◌≡◌, ◌++◌}
use Rattle.metric_index.proofs.index.Index.paths.Given as goal

abbrev pub invariant-loop-path : goal.invariant-loop-path
invariant-loop-path g l = l.paths.items ++ l.path-iterator ≡ l.initial.path-iterator

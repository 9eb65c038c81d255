use Rattle.std.proofs.Common.{◌≡◌, ◌++◌}
use Rattle.metric_index.specs.Index.{paths_of}
use Rattle.metric_index.proofs.copying.first_of.Given as goal

abbrev pub invariant-loop-path : goal.invariant-loop-path
invariant-loop-path g l = l.paths.items ++ paths_of l.path-iterator ≡ paths_of l.fn.entries

use Rattle.std.proofs.Common.{◌≡◌, ◌++◌, length}
use Rattle.metric_path.specs.Path.{nodes_of}
use Rattle.path_glob.proofs.glob_search.searches_of.Given as goal

abbrev pub invariant-loop-cut : goal.invariant-loop-cut
invariant-loop-cut l = l.nodes.items ++ nodes_of l.rest ≡ nodes_of l.text

abbrev pub decreases-loop-cut : goal.decreases-loop-cut
decreases-loop-cut l = length l.rest

use Rattle.std.proofs.Common.{◌≡◌, ◌≤◌, true, drop}
use Rattle.std.specs.Option.{option_copied}
use Rattle.metric_path.specs.Path.{nodes_of}
use Rattle.path_glob.specs.Search.{nodes_left}
use Rattle.path_glob.proofs.CoverLemmas.{FitsParts, are_short}
use Rattle.path_glob.proofs.SearchLemmas.{FitsLeft}
use Rattle.path_glob.proofs.glob_search.nodes_fit.Given as goal

abbrev pub invariant-loop-i : goal.invariant-loop-i
invariant-loop-i l = record {
  same : l.nodes ≡ l.fn.nodes;
  left : FitsLeft (drop l.i l.fn.nodes) (nodes_left (option_copied l.left)) (FitsParts l.fn.nodes (nodes_of l.path));
  short : are_short (nodes_left (option_copied l.left)) ≡ true;
  falls : l.work.left ≤ l.fn.work.left;
}

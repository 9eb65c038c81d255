use Rattle.std.proofs.Common.{◌≡◌, length}
use Rattle.find_api.proofs.FindLemmas.{Walks}
use Rattle.find_api.proofs.find.push_nodes.Given as goal

abbrev pub invariant-loop-name : goal.invariant-loop-name
invariant-loop-name l = record {
  walks : Walks l.glob l.names l.fn.nodes.items l.rest l.nodes.items;
  same : l.search ≡ l.glob;
}

abbrev pub decreases-loop-name : goal.decreases-loop-name
decreases-loop-name l = length l.rest

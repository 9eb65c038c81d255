use Rattle.find_api.proofs.NodeLemmas.{first_nodes}
use Rattle.find_api.proofs.laws.branches_are_the_first_nodes.Goals as goal

pub returns : goal.returns
returns c = first_nodes

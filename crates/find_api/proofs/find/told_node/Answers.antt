use Rattle.std.proofs.Common.{◌≡◌, ℕ, List, None, eqb, length, subst, sym, take}
use Rattle.metric_path.specs.Path.{nodes_of}
use Rattle.find_api.specs.Nodes.{Tells}
use Rattle.find_api.specs.Runs.{TellsAt}
use Rattle.find_api.proofs.FindLemmas.{legal_end, none_told, told_at}
use Rattle.find_api.proofs.find.told_node.Goals as goal

pub returns-in_default : goal.returns-in_default
returns-in_default c =
    subst (λ (name : List ℕ). TellsAt c.args.count name None) c.text-text.ensures.value (none_told c.args.count c.text-text.result.now c.in_default.ensures.ends)

pub from_legal-requires : goal.from_legal-requires
from_legal-requires c = legal_end c.args.count c.text-text.result.now c.in-Some.at c.in-Some.ensures.ends c.text-text.ensures.legal

pub returns : goal.returns
returns c =
    let text = c.text-text.result.now in
    let leaf = eqb c.in-Some.at (length text) in
    let told = told_at c.args.count text c.in-Some.at c.in-Some.ensures.ends in
    subst (λ (path : List ℕ). Tells leaf path c.args.name.now × (length (nodes_of path) ≡ c.args.count)) (sym c.in_ok-path.ensures)
    (subst (λ (name : List ℕ). Tells leaf (take c.in-Some.at text) name) c.text-text.ensures.value told.0, told.1)

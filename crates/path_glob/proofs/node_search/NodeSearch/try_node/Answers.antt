use Rattle.std.proofs.Common.{ℕ, List, subst, sym}
use Rattle.path_glob.specs.Glob.{NodeCovers}
use Rattle.path_glob.specs.Reading.{pieces_of}
use Rattle.path_glob.proofs.CoverLemmas.{Tells}
use Rattle.path_glob.proofs.SearchLemmas.{verdicts_kept}
use Rattle.path_glob.proofs.node_search.NodeSearch.try_node.Goals as goal

pub invariant_of-self-2 : goal.invariant_of-self-2
invariant_of-self-2 c =
    let pieces = c.self.inside.pieces.now in
    let key = c.in_ok-tried.tried in
    let covers = c.in_ok-covers.covers in
    let held : Tells covers (NodeCovers (pieces_of pieces) c.args.node.now) = subst (λ (p : List ℕ). Tells covers (NodeCovers (pieces_of p) c.args.node.now)) (sym c.self.view_is) c.in_ok-covers.ensures.covers in
    let tells = subst (λ (node : List ℕ). Tells covers (NodeCovers (pieces_of pieces) node)) (sym c.in_ok-tried.ensures.items) held in
    (verdicts_kept pieces key covers c.self.inside.tried.entries c.insert.new.self.entries c.self.invariant.0 tells c.in_ok-insert.ensures.updates.1 c.in_ok-insert.ensures.updates.3, c.self.invariant.1)

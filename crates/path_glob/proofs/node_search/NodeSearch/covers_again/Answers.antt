use Rattle.std.proofs.Common.{rules, ◌≡◌, Bool, ℕ, List, IfSome, subst}
use Rattle.path_glob.specs.Search.{IsVerdict}
use Rattle.path_glob.proofs.node_search.NodeSearch.covers_again.Goals as goal

pub returns-then-eq : goal.returns-then-eq
returns-then-eq c =
    let last = c.self.inside.last_covers in
    let same : c.self.inside.last.items ≡ c.args.node.now = search rules in
    subst (λ (pieces : List ℕ). IfSome last (λ (covers : Bool). IsVerdict pieces c.args.node.now covers)) c.self.view_is
    (subst (λ (node : List ℕ). IfSome last (λ (covers : Bool). IsVerdict c.self.inside.pieces.now node covers)) same c.self.invariant.1.1)

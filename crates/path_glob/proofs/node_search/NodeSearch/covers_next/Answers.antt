use Rattle.std.proofs.Common.{List, sym, subst, ℕ}
use Rattle.path_glob.specs.Glob.{NodeCovers}
use Rattle.path_glob.specs.Reading.{pieces_of}
use Rattle.path_glob.proofs.CoverLemmas.{Tells}
use Rattle.path_glob.proofs.node_search.NodeSearch.covers_next.Goals as goal

pub returns-in-Some-clause-covers : goal.returns-in-Some-clause-covers
returns-in-Some-clause-covers c =
    subst (λ (pieces : List ℕ). Tells c.in-Some.covers.now (NodeCovers (pieces_of pieces) c.args.node.now)) c.self.view_is
    (c.self.invariant.0 c.args.node.now c.in-Some.covers.now (sym c.in-Some.ensures.value))

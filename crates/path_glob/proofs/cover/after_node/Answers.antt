use Rattle.std.proofs.Common.{subst, sym, List}
use Rattle.path_glob.specs.Glob.{NodeCovers, Piece}
use Rattle.path_glob.specs.Positions.{Leads, held}
use Rattle.path_glob.specs.Reading.{pieces_of, row_of, values_of}
use Rattle.path_glob.proofs.PositionLemmas.{leads_braces, leads_row}
use Rattle.path_glob.proofs.cover.after_node.Goals as goal

pub loop-parts-preserved : goal.loop-parts-preserved
loop-parts-preserved c = λ new leads.
    let parts = c.in-Some.parts in
    let reached = held c.loop-parts.reached in
    let all = leads_braces (row_of parts.before.now) (values_of parts.inner.now) (pieces_of parts.after.now) c.args.node.now reached
    (held c.after_row-before.result) (held c.after_values-reached.result) new c.after_row-before.ensures c.after_values-reached.ensures leads in
    c.loop-parts.invariant new (subst (λ (pieces : List Piece). Leads (NodeCovers pieces) c.args.node.now reached new) (sym c.in-Some.ensures.0) all)

pub returns : goal.returns
returns c =
    let reached = held c.loop-parts.reached in
    let last = held c.after_row.result in
    let row = leads_row (row_of c.loop-parts.rest.now) c.args.node.now reached last c.after_row.ensures in
    c.loop-parts.invariant last (subst (λ (pieces : List Piece). Leads (NodeCovers pieces) c.args.node.now reached last) (sym c.in_default.ensures) row)

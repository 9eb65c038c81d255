use Rattle.std.proofs.Common.{◌∙◌, ap, sym}
use Rattle.path_glob.specs.Glob.{NodeCovers}
use Rattle.path_glob.specs.Positions.{held}
use Rattle.path_glob.specs.Reading.{pieces_of}
use Rattle.path_glob.proofs.PositionLemmas.{leads_over}
use Rattle.path_glob.proofs.cover.is_covered.Goals as goal

pub returns : goal.returns
returns c =
    let covers = NodeCovers (pieces_of c.args.pieces.now) in
    let over = leads_over covers c.args.node.now (held c.start.result) (held c.after_node.result) c.start.ensures.first c.start.ensures.other c.after_node.ensures in
    let end = ap (held c.after_node.result) c.len.ensures in
    (λ yes. over.0 (sym (c.has.ensures ∙ end) ∙ yes), λ covered. c.has.ensures ∙ end ∙ over.1 covered)

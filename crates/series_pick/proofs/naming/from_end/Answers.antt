use Rattle.std.proofs.Common.{ap, option_map, ◌∙◌}
use Rattle.std.proofs.lemmas.Iterator.Adapters.{YieldsList-from_rev_slice}
use Rattle.std.proofs.lemmas.Iterator.Consumers.{nth_from_yields_List}
use Rattle.series_pick.proofs.NodeLemmas.{from_end}
use Rattle.series_pick.proofs.naming.from_end.Goals as goal

pub returns : goal.returns
returns c =
    ap (option_map (λ node. node.now)) (c.copied.ensures ∙ nth_from_yields_List _ _ c.args.place c.nth.ensures.ran (YieldsList-from_rev_slice c.args.nodes.now cc))
    ∙ from_end (λ node. node.now) c.args.nodes.now c.args.place

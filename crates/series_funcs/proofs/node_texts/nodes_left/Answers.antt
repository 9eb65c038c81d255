use Rattle.std.proofs.Common.{sym, ◌∙◌, ap, map, []}
use Rattle.series_funcs.proofs.NodeLemmas.{left_kept, left_skipped}
use Rattle.series_funcs.proofs.node_texts.nodes_left.Goals as goal

pub loop-place-preserved-then-has : goal.loop-place-preserved-then-has
loop-place-preserved-then-has c =
    left_skipped c.args.without.now c.args.nodes.now _ c.loop-place.place (record { ref_ptr = (0, 0); now = [] }) c.loop-place-test.true (sym c.has.ensures ∙ c.if-has.true) c.loop-place.invariant

pub loop-place-preserved : goal.loop-place-preserved
loop-place-preserved c =
    ap (map (λ node. node.now)) c.in_ok-push.ensures.items
    ∙ left_kept c.args.without.now c.args.nodes.now c.loop-place.left.items c.loop-place.place _ c.loop-place-test.true (sym c.has.ensures ∙ c.if-has.false) c.loop-place.invariant

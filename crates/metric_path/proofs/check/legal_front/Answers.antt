use Rattle.std.proofs.Common.{◌≡◌, List, [], ◌∷◌, ◌++◌, ℕ, ◌-◌, length, true, get_or, take, sym, ◌∙◌, ap, subst, subst₂, arith, rules}
use Rattle.std.proofs.lemmas.List.{take_more}
use Rattle.metric_path.specs.Path.{is_node_byte}
use Rattle.metric_path.proofs.CheckLemmas.{Walked, Walked-byte, Walked-dot, front_is_legal}
use Rattle.metric_path.proofs.check.legal_front.Goals as goal
use Rattle.metric_path.proofs.check.legal_front.Goals.{then-not-is_node_byte+else-text-at-ne46+else-not-is_node_len, else-not-is_node_byte}

pub returns-then-text-at-ne46-clause-legal : goal.returns-then-text-at-ne46-clause-legal
returns-then-text-at-ne46-clause-legal c =
    front_is_legal c.args.text.now c.front_len.result c.loop-at.at c.loop-at.start c.front_len.ensures.front c.front_len.ensures.legal
    (omega (arith, c.loop-at-test.true)) c.loop-at.invariant.walked

pub loop-at-preserved : goal.loop-at-preserved
loop-at-preserved c =
    let text = c.args.text.now in
    let more = take_more text c.loop-at.at 0 c.loop-at-test.true in
    elim c.if-not-is_node_byte.branch [
      | then-not-is_node_byte+else-text-at-ne46+else-not-is_node_len w ↦
          let dot : get_or text c.loop-at.at 0 ≡ 46 = w.if-text-at-ne46.false in
          let fit = w.is_node_len.ensures.0 w.if-not-is_node_len.false in
          let ends = more ∙ ap (λ (b : ℕ). take c.loop-at.at text ++ b ∷ []) dot in
          record {
            walked = subst₂ Walked (sym ends) (omega (arith, w.start-is)) (Walked-dot _ _ c.loop-at.invariant.walked fit.0 fit.1);
            begun = omega (arith, w.start-is);
          }
      | else-not-is_node_byte w ↦
          let good : is_node_byte (get_or text c.loop-at.at 0) ≡ true = sym c.is_node_byte.ensures ∙ w.if-not-is_node_byte.false in
          record {
            walked = subst₂ Walked (sym more) (omega (arith, w.start-is, c.loop-at.invariant.begun)) (Walked-byte _ _ _ c.loop-at.invariant.walked good);
            begun = omega (arith, w.start-is, c.loop-at.invariant.begun);
          }
    ]

pub returns-clause-legal : goal.returns-clause-legal
returns-clause-legal c =
    let end : c.loop-at.at ≡ length c.args.text.now = omega (arith, c.loop-at-test.false, c.loop-at.auto.at-end) in
    front_is_legal c.args.text.now c.front_len-2.result (length c.args.text.now) c.loop-at.start c.front_len-2.ensures.front c.front_len-2.ensures.legal
    (omega arith) (subst (λ (n : ℕ). Walked (take n c.args.text.now) (n - c.loop-at.start)) end c.loop-at.invariant.walked)

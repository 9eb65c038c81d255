use Rattle.std.proofs.Common.{◌≡◌, List, ℕ, IfOk, string_bytes, map, subst, ap, ◌∙◌, ◌∷◌, []}
use Rattle.std.specs.List.{join_by}
use Rattle.series_funcs.specs.NodeTexts.{nodes_left}
use Rattle.series_funcs.proofs.NodeLemmas.{joined_texts}
use Rattle.series_funcs.proofs.node_texts.text_without.Goals as goal

pub returns : goal.returns
returns c =
    let nodes = ap (map (λ node. node.now)) c.as_slice.ensures.value ∙ c.in_ok-nodes.ensures in
    let left = c.in_ok-left.ensures ∙ ap (nodes_left c.args.without.now) nodes in
    let joined = ap (join_by (λ node. node.now) (46 ∷ [])) c.as_slice-2.ensures.value ∙ joined_texts c.in_ok-left.left.items ∙ ap (join_by (λ (text : List ℕ). text) (46 ∷ [])) left in
    subst (λ (text : List ℕ). IfOk c.join.result (λ made. string_bytes made ≡ text)) joined c.join.ensures.ok

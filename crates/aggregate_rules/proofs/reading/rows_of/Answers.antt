use Rattle.std.proofs.Common.{◌≡◌, ◌∙◌, ◌<◌, ℕ, true, is_some, option_copied, Option, None, Some, Bor, List, [], ◌∷◌, length, refl, sym, arith}
use Rattle.std.proofs.lemmas.List.{drop_all}
use Rattle.std.proofs.lemmas.List.Splits.{length-slice_split}
use Rattle.metric_path.specs.Path.{is_dot, nodes_of}
use Rattle.aggregate_rules.specs.Readings.{reading}
use Rattle.aggregate_rules.specs.SeenWords.{left_nodes}
use Rattle.aggregate_rules.proofs.reading.rows_of.Goals as goal

no_more : (rows texts : List (List ℕ)) → 0 < length texts → reading rows [] texts ≡ None
unfolding reading
no_more rows [] some = absurd (omega arith)
no_more rows (text ∷ texts) some = refl

left_more : (rows : List (List ℕ)) (left : Option (Bor (List ℕ))) → is_some left ≡ true → reading rows [] (left_nodes (option_copied left)) ≡ None
left_more rows None some = absurd cc
left_more rows (Some text) some = no_more rows (nodes_of text.now) (omega (arith, length-slice_split is_dot text.now))

pub returns-then-is_some : goal.returns-then-is_some
returns-then-is_some c =
    sym (c.loop-node.invariant.same ∙ rw (drop_all _ _ c.loop-node-test.false) (left_more _ c.loop-node.left (sym c.is_some.ensures ∙ c.if-is_some.true)))

use Rattle.std.proofs.Common.{ℤ, List, [], ◌∷◌, ◌++◌, None, Option, ap, sym, ◌∙◌}
use Rattle.std.proofs.lemmas.List.{map_more}
use Rattle.series_funcs.proofs.dividing.all_missing.Goals as goal

pub loop-value-preserved : goal.loop-value-preserved
loop-value-preserved c =
    c.in_ok-push.ensures.items
    ∙ ap (λ (v : Option ℤ). c.loop-value.missing.items ++ v ∷ []) c.missing.ensures
    ∙ ap (λ (xs : List (Option ℤ)). xs ++ None ∷ []) c.loop-value.invariant
    ∙ sym (map_more (λ (_ : Option ℤ). None) c.args.values.now c.loop-value._value-index None c.loop-value-test.true)

use Rattle.std.proofs.Common.{sym, ap, ◌∙◌, ◌++◌, ◌∷◌, List, ℤ, []}
use Rattle.std.proofs.lemmas.List.{append-nil}
use Rattle.series_funcs.proofs.ColumnLemmas.{known_more}
use Rattle.series_funcs.proofs.combining.gather_known.Goals as goal

pub loop-one-preserved-in_default : goal.loop-one-preserved-in_default
loop-one-preserved-in_default c =
    c.loop-one.invariant
    ∙ sym (append-nil _)
    ∙ sym (known_more c.args.series.now c.args.place c.loop-one.one-index c.one-item.result _ c.loop-one-test.true c.one-item.is (sym c.in_default.is ∙ c.value_at.ensures))

pub loop-one-preserved : goal.loop-one-preserved
loop-one-preserved c =
    c.in_ok-push.ensures.items
    ∙ ap (λ (xs : List ℤ). xs ++ c.in-Some.value ∷ []) c.loop-one.invariant
    ∙ sym (known_more c.args.series.now c.args.place c.loop-one.one-index c.one-item.result _ c.loop-one-test.true c.one-item.is (sym c.in-Some.is ∙ c.value_at.ensures))

use Rattle.std.proofs.Common.{◌≡◌, ℤ, ◌++◌, ◌∷◌, [], List, Option, None, get_or, take, sym, ap, ◌∙◌}
use Rattle.std.specs.List.{cons_option}
use Rattle.std.proofs.lemmas.List.{append-nil, get_or_default}
use Rattle.series_set.specs.Average.{known}
use Rattle.series_funcs.proofs.BackLemmas.{known_next}
use Rattle.series_funcs.proofs.summary.put_known.Goals as goal

pub loop-value-preserved-in_default : goal.loop-value-preserved-in_default
loop-value-preserved-in_default c =
    let values = c.args.values.now in
    let i = c.loop-value.value-index in
    let read : c.get.result ≡ get_or values i None = c.get.ensures ∙ c.value-item.is ∙ get_or_default values i c.value-item.result None c.loop-value-test.true in
    c.loop-value.invariant ∙ sym (append-nil _)
    ∙ ap (λ (v : Option ℤ). known (take i values) ++ cons_option v []) (sym (sym read ∙ c.in_default.is))
    ∙ sym (known_next values i c.loop-value-test.true)

pub loop-value-preserved : goal.loop-value-preserved
loop-value-preserved c =
    let values = c.args.values.now in
    let i = c.loop-value.value-index in
    let read : c.get.result ≡ get_or values i None = c.get.ensures ∙ c.value-item.is ∙ get_or_default values i c.value-item.result None c.loop-value-test.true in
    c.in_ok-push.ensures.items
    ∙ ap (λ (xs : List ℤ). xs ++ c.in-Some.value ∷ []) c.loop-value.invariant
    ∙ ap (λ (v : Option ℤ). known (take i values) ++ cons_option v []) (sym (sym read ∙ c.in-Some.is))
    ∙ sym (known_next values i c.loop-value-test.true)

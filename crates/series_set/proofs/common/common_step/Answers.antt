use Rattle.std.proofs.Common.{◌≡◌, ℕ, ◌+◌, List, ◌∷◌, drop, false, sym, ap, subst, ◌∙◌, arith}
use Rattle.std.proofs.lemmas.Bool.Decides.{nat_tests}
use Rattle.std.proofs.lemmas.List.{drop_more}
use Rattle.series_set.specs.Series.{SeriesValue}
use Rattle.series_set.specs.CommonGrid.{is_too_wide, lcm}
use Rattle.series_set.proofs.WalkLemmas.{Walks, walks_more, walks_start}
use Rattle.series_set.proofs.common.common_step.Goals as goal

pub loop-one-init : goal.loop-one-init
loop-one-init c = (walks_start c.args.series.now, (omega arith, omega arith))

pub loop-one-preserved : goal.loop-one-preserved
loop-one-preserved c =
    let set = c.args.series.now in
    let s = c.one-item.result in
    let rest = drop (c.loop-one.one-index + 1) set in
    let left : drop c.loop-one.one-index set ≡ s ∷ rest = drop_more set c.loop-one.one-index s c.loop-one-test.true ∙ ap (λ (x : SeriesValue). x ∷ rest) (sym c.one-item.is) in
    let so_far : Walks set c.loop-one.step (s ∷ rest) = subst (λ (xs : List SeriesValue). Walks set c.loop-one.step xs) left c.loop-one.invariant.0 in
    let multiple : c.lcm-step.result ≡ lcm c.loop-one.step s.step = c.lcm-step.ensures.value ∙ ap (lcm c.loop-one.step) c.step.ensures.value in
    let narrow : is_too_wide c.lcm-step.result ≡ false = let below = c.if-step-gt-WIDEST_STEP.false in grind (arith, nat_tests) in
    let more = walks_more set c.loop-one.step s rest (ap is_too_wide (sym multiple) ∙ narrow) so_far in
    (subst (λ (n : ℕ). Walks set n rest) (sym multiple) more, (c.lcm-step.ensures.least, c.if-step-gt-WIDEST_STEP.false))

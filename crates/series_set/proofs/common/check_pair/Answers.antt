use Rattle.std.proofs.Common.{◌≡◌, ℕ, [], ◌∷◌, None, Some, false, true, option_map, sym, ap, subst, ◌∙◌, arith}
use Rattle.std.proofs.lemmas.Bool.Decides.{nat_tests}
use Rattle.series_set.specs.declared.grid.EvalFault.TheVariants.{StepTooWide}
use Rattle.series_set.specs.CommonGrid.{is_too_wide, wide_multiple}
use Rattle.series_set.proofs.WalkLemmas.{pair_fits, pair_too_wide}
use Rattle.series_set.proofs.common.check_pair.Goals as goal

pub returns-then-step-gt-WIDEST_STEP-clause-err : goal.returns-then-step-gt-WIDEST_STEP-clause-err
returns-then-step-gt-WIDEST_STEP-clause-err c =
    let a = c.step.result in
    let b = c.step-2.result in
    let same = c.lcm-step.ensures.value in
    let short : is_too_wide a ≡ false = let is = c.step.ensures.value in let below = c.requires.one in grind (arith, nat_tests) in
    let above : is_too_wide c.lcm-step.result ≡ true = let over = c.if-step-gt-WIDEST_STEP.true in grind (arith, nat_tests) in
    let wide = pair_too_wide a b c.step.ensures.some short (ap is_too_wide (sym same) ∙ above) in
    let here : option_map StepTooWide (wide_multiple (a ∷ b ∷ [])) ≡ Some (StepTooWide c.lcm-step.result) =
    ap (option_map StepTooWide) wide ∙ ap (λ (n : ℕ). Some (StepTooWide n)) (sym same) in
    subst (λ (n : ℕ). option_map StepTooWide (wide_multiple (n ∷ c.args.other.now.step ∷ [])) ≡ Some (StepTooWide c.lcm-step.result)) c.step.ensures.value
    (subst (λ (n : ℕ). option_map StepTooWide (wide_multiple (a ∷ n ∷ [])) ≡ Some (StepTooWide c.lcm-step.result)) c.step-2.ensures.value here)

pub returns-clause-ok : goal.returns-clause-ok
returns-clause-ok c =
    let a = c.step.result in
    let b = c.step-2.result in
    let same = c.lcm-step.ensures.value in
    let short : is_too_wide a ≡ false = let is = c.step.ensures.value in let below = c.requires.one in grind (arith, nat_tests) in
    let narrow : is_too_wide c.lcm-step.result ≡ false = let below = c.if-step-gt-WIDEST_STEP.false in grind (arith, nat_tests) in
    let fits = pair_fits a b c.step.ensures.some short (ap is_too_wide (sym same) ∙ narrow) in
    subst (λ (n : ℕ). wide_multiple (n ∷ c.args.other.now.step ∷ []) ≡ None) c.step.ensures.value
    (subst (λ (n : ℕ). wide_multiple (a ∷ n ∷ []) ≡ None) c.step-2.ensures.value fits)

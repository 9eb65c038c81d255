use Rattle.std.proofs.Common.{◌≡◌, ℕ, List, None, Some, option_map, sym, ap, subst, ◌∙◌}
use Rattle.std.specs.Map.Iter.{deref_pair}
use Rattle.std.proofs.lemmas.Option.{get_or_from_slice_get, slice_get_within}
use Rattle.series_set.specs.declared.grid.EvalFault.{EvalFault}
use Rattle.series_set.specs.declared.grid.EvalFault.TheVariants.{StepTooWide}
use Rattle.series_set.specs.Series.{SeriesValue}
use Rattle.series_set.specs.CommonGrid.{first_wide, steps_of, wide_multiple}
use Rattle.series_funcs.specs.Regrouped.{members}
use Rattle.series_funcs.proofs.EachLemmas.{if_err_at}
use Rattle.series_funcs.proofs.StepLemmas.{wide_more, wide_stops}
use Rattle.series_funcs.proofs.regrouping.check_steps.Goals as goal

pub returns-in_err-common_step-clause-err : goal.returns-in_err-common_step-clause-err
returns-in_err-common_step-clause-err c =
    let groups = c.args.groups.now.entries in
    let group : List ℕ × List SeriesValue = (c.in-Some.field-0-0.now, c.in-Some.group.now) in
    let there = sym c.get_index.ensures.entry ∙ ap (option_map deref_pair) c.in-Some.is in
    let within = slice_get_within groups c.loop-place.place group there in
    let is = sym (get_or_from_slice_get groups c.loop-place.place group group there) in
    let fault = c.in_err-common_step.field-0.0 in
    if_err_at (λ (fault : EvalFault). option_map StepTooWide (first_wide (members groups)) ≡ Some fault) _ fault c.from_residual.ensures.1
    (wide_stops (λ (g : List ℕ × List SeriesValue). g.1) groups c.loop-place.place group fault within is c.loop-place.invariant
    (subst (λ (set : List SeriesValue). option_map StepTooWide (wide_multiple (steps_of set)) ≡ Some fault) c.as_slice.ensures c.in_err-common_step.ensures.err))

pub loop-place-preserved : goal.loop-place-preserved
loop-place-preserved c =
    let groups = c.args.groups.now.entries in
    let group : List ℕ × List SeriesValue = (c.in-Some.field-0-0.now, c.in-Some.group.now) in
    let there = sym c.get_index.ensures.entry ∙ ap (option_map deref_pair) c.in-Some.is in
    let within = slice_get_within groups c.loop-place.place group there in
    let is = sym (get_or_from_slice_get groups c.loop-place.place group group there) in
    wide_more (λ (g : List ℕ × List SeriesValue). g.1) groups c.loop-place.place group within is c.loop-place.invariant
    (subst (λ (set : List SeriesValue). wide_multiple (steps_of set) ≡ None) c.as_slice.ensures c.in_ok-common_step.ensures.ok.fitting)

use Rattle.std.proofs.Common.{◌≡◌, ◌≢◌, ◌+◌, ℕ, List, [], ◌∷◌, ◌++◌, Ok, Err, take, option_map, sym, ap, subst, ◌∙◌}
use Rattle.std.specs.List.{AllZip}
use Rattle.std.specs.Map.Iter.{deref_pair}
use Rattle.std.proofs.lemmas.List.{take_more}
use Rattle.std.proofs.lemmas.Option.{get_or_from_slice_get, slice_get_within}
use Rattle.std.proofs.lemmas.Slice.Zip.{all_zipped_more}
use Rattle.series_set.specs.declared.grid.EvalFault.{EvalFault}
use Rattle.series_set.specs.declared.grid.EvalFault.TheVariants.{NoMemory}
use Rattle.series_set.specs.Series.{SeriesValue}
use Rattle.series_funcs.specs.Combined.{IsSoonAfter, combined_series}
use Rattle.series_funcs.specs.Each.{each_of}
use Rattle.series_funcs.specs.Regrouped.{Groups, combined_group}
use Rattle.series_funcs.proofs.EachLemmas.{each_more, each_stops, if_err_at}
use Rattle.series_funcs.proofs.regrouping.combine_each.Goals as goal

pub returns-in_err-combined_series-clause-err : goal.returns-in_err-combined_series-clause-err
returns-in_err-combined_series-clause-err c =
    let f = combined_group c.args.kind in
    let groups = c.args.groups.now.entries in
    let group : List ℕ × List SeriesValue = (c.in-Some.name.now, c.in-Some.group.now) in
    let there = sym c.get_index.ensures.entry ∙ ap (option_map deref_pair) c.in-Some.is in
    let within = slice_get_within groups c.loop-place.place group there in
    let is = sym (get_or_from_slice_get groups c.loop-place.place group group there) in
    let fault = c.in_err-combined_series.field-0.0 in
    if_err_at (λ (fault : EvalFault). fault ≢ NoMemory → each_of f groups ≡ Err fault) _ fault c.from_residual-in_err-combined_series.ensures.1
    (λ other. each_stops f groups c.loop-place.place group fault _ within is c.loop-place.invariant.0
    (subst (λ (text : List ℕ). combined_series c.args.kind c.in-Some.group.now text text ≡ Err fault) c.as_str-text.ensures (c.in_err-combined_series.ensures.err other)))

pub loop-place-preserved : goal.loop-place-preserved
loop-place-preserved c =
    let f = combined_group c.args.kind in
    let groups = c.args.groups.now.entries in
    let group : List ℕ × List SeriesValue = (c.in-Some.name.now, c.in-Some.group.now) in
    let there = sym c.get_index.ensures.entry ∙ ap (option_map deref_pair) c.in-Some.is in
    let within = slice_get_within groups c.loop-place.place group there in
    let is = sym (get_or_from_slice_get groups c.loop-place.place group group there) in
    let series = c.in_ok-combined_series.field-0 in
    let made = subst (λ (text : List ℕ). combined_series c.args.kind c.in-Some.group.now text text ≡ Ok series) c.as_str-text.ensures c.in_ok-combined_series.ensures.ok in
    let more = take_more groups c.loop-place.place group within ∙ ap (λ (g : List ℕ × List SeriesValue). take c.loop-place.place groups ++ g ∷ []) (sym is) in
    let zipped = all_zipped_more (λ (g : List ℕ × List SeriesValue) (s : SeriesValue). IsSoonAfter g.1 s) (take c.loop-place.place groups) c.loop-place.together.items group series c.loop-place.invariant.1 c.in_ok-combined_series.ensures.bounds in (
      each_more f groups c.loop-place.place group series c.loop-place.together.items within is c.loop-place.invariant.0 made ∙ ap Ok (sym c.in_ok-push.ensures.items),
      subst (AllZip (λ (g : List ℕ × List SeriesValue) (s : SeriesValue). IsSoonAfter g.1 s) (take (c.loop-place.place + 1) groups)) (sym c.in_ok-push.ensures.items)
          (subst (λ (gs : Groups). AllZip (λ (g : List ℕ × List SeriesValue) (s : SeriesValue). IsSoonAfter g.1 s) gs (c.loop-place.together.items ++ series ∷ [])) (sym more) zipped),
    )

use Rattle.std.proofs.Common.{◌≡◌, ◌≢◌, ◌<◌, List, Result, Err, IfErr, ℕ, All, length, sym, ap, subst, ◌∙◌}
use Rattle.std.specs.List.{AllZip}
use Rattle.series_set.specs.Series.{SeriesValue}
use Rattle.series_set.proofs.GroupLemmas.{if_ok_more}
use Rattle.series_set.specs.declared.grid.EvalFault.{EvalFault}
use Rattle.series_set.specs.declared.grid.EvalFault.TheVariants.{NoMemory}
use Rattle.series_funcs.specs.declared.kinds.Combine.{Combine}
use Rattle.series_funcs.specs.Combined.{AreCombinable, IsSoonAfter}
use Rattle.series_funcs.specs.Regrouped.{Groups, combined_groups, group_text, groups_by}
use Rattle.series_funcs.proofs.GroupedLemmas.{groups_combinable, groups_some, groups_soon, regroup_is}
use Rattle.series_funcs.proofs.regrouping.regroup.Goals as goal

pub combine_groups-requires-clause-some : goal.combine_groups-requires-clause-some
combine_groups-requires-clause-some c =
    subst (All (λ (group : List ℕ × List SeriesValue). 0 < length group.1)) (sym (c.in_ok-groups.ensures ∙ ap (groups_by (λ s. group_text c.args.kind.now s.path)) c.as_slice.ensures)) (groups_some (λ s. group_text c.args.kind.now s.path) c.args.set.now)

pub combine_groups-requires-clause-series : goal.combine_groups-requires-clause-series
combine_groups-requires-clause-series c =
    subst (All (λ (group : List ℕ × List SeriesValue). AreCombinable group.1)) (sym (c.in_ok-groups.ensures ∙ ap (groups_by (λ s. group_text c.args.kind.now s.path)) c.as_slice.ensures)) (groups_combinable (λ s. group_text c.args.kind.now s.path) c.args.set.now c.requires)

pub returns-clause-bounds : goal.returns-clause-bounds
returns-clause-bounds c =
    if_ok_more (λ (together : List SeriesValue). AllZip (λ group s. IsSoonAfter group.1 s) c.in_ok-groups.groups.entries together) (All (IsSoonAfter c.args.set.now)) c.combine_groups.result c.combine_groups.ensures.bounds
    (λ together zip. groups_soon (λ s. group_text c.args.kind.now s.path) c.args.set.now together (subst (λ (groups : Groups). AllZip (λ group s. IsSoonAfter group.1 s) groups together) (c.in_ok-groups.ensures ∙ ap (groups_by (λ s. group_text c.args.kind.now s.path)) c.as_slice.ensures) zip))

pub returns-clause-err : goal.returns-clause-err
returns-clause-err c =
    let by = λ (s : SeriesValue). group_text c.args.kind.now s.path in
    let groups = c.in_ok-groups.ensures ∙ ap (groups_by by) c.as_slice.ensures in
    let same = ap (combined_groups c.combine_of.result) groups
    ∙ ap (λ (kind : Combine). combined_groups kind (groups_by by c.args.set.now)) c.combine_of.ensures
    ∙ regroup_is c.args.kind.now c.args.set.now in
    subst (λ (r : Result (List SeriesValue) EvalFault). IfErr c.combine_groups.result (λ fault. fault ≢ NoMemory → r ≡ Err fault)) same c.combine_groups.ensures.err

use Rattle.std.proofs.Common.{List, [], ◌∷◌, ◌++◌, sym, ap, ◌∙◌}
use Rattle.std.specs.Map.{set_value}
use Rattle.std.specs.Option.{option_copied_mut}
use Rattle.std.specs.Str.{bytes_eq}
use Rattle.indexmap.specs.IndexMap.{insert_entry}
use Rattle.indexmap.proofs.CallerLemmas.{insert_entry-new}
use Rattle.series_set.specs.Series.{SeriesValue}
use Rattle.series_funcs.proofs.GroupedLemmas.{begun, grown}
use Rattle.series_funcs.proofs.regrouping.add_to_group.Goals as goal

pub returns-in-Some : goal.returns-in-Some
returns-in-Some c = λ of set is so_far.
    let found = sym c.get_mut.ensures.value ∙ ap option_copied_mut c.in-Some.is in
    (c.get_mut.follows.holds c.push.new.self).0
    ∙ ap (set_value (bytes_eq c.args.name) c.args.groups.now.entries) c.in_ok-push.ensures.ok
    ∙ grown of set c.args.series c.args.name c.args.groups.now.entries c.in-Some.group.now c.get_mut.ensures.unique found is so_far

pub returns : goal.returns
returns c = λ of set is so_far.
    let none = sym c.get_mut.ensures.value ∙ ap option_copied_mut c.in_default.is in
    let first = c.in_ok-push-2.ensures.ok ∙ ap (λ (group : List SeriesValue). group ++ c.args.series ∷ []) c.new-group.ensures in
    c.in_ok-insert.ensures.entries
    ∙ ap (λ m. insert_entry bytes_eq m.entries c.args.name c.push-2.new.self) c.get_mut.follows.holds-at-none
    ∙ ap (insert_entry bytes_eq c.args.groups.now.entries c.args.name) first
    ∙ insert_entry-new bytes_eq c.args.groups.now c.args.name (c.args.series ∷ []) none
    ∙ begun of set c.args.series c.args.name c.args.groups.now.entries none is so_far

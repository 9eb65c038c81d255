use Rattle.std.proofs.Common.{◌<◌, length, set, ap, ◌∙◌, rules}
use Rattle.std.proofs.lemmas.List.Edits.{map_over_more}
use Rattle.series_funcs.specs.Shaped.{changed_value}
use Rattle.series_funcs.proofs.changing.change_each.Goals as goal

pub loop-place-preserved : goal.loop-place-preserved
loop-place-preserved c =
    let within : c.loop-place.place < length c.args.values.now.items = search rules in
    ap (set c.loop-place.values.items c.loop-place.place) (c.of.ensures ∙ c.changed_value-value.ensures ∙ ap (changed_value c.args.change.now) c.get.ensures)
    ∙ map_over_more (changed_value c.args.change.now) c.args.values.now.items c.loop-place.values.items c.loop-place.place c.index.result.now within c.loop-place.invariant c.index.ensures

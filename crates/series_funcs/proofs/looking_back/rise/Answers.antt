use Rattle.std.proofs.Common.{◌<◌, ◌≤◌, length, None, ap₂, ◌∙◌, rules}
use Rattle.series_funcs.proofs.BackLemmas.{before_next, read_next, rises_at, risen_at, risen_from}
use Rattle.series_funcs.proofs.PlaceByPlace.{placed_all, placed_more}
use Rattle.series_funcs.proofs.looking_back.rise.Goals as goal

pub loop-place-preserved : goal.loop-place-preserved
loop-place-preserved c =
    let old = c.args.values.now.items in
    let place = c.loop-place.place in
    let within : place < length old = search rules in
    let so_far = c.loop-place.invariant in
    let value = read_next (risen_at old) old c.loop-place.values.items place c.index-value.result.now within c.index-value.ensures so_far.0 in (
      placed_more (risen_at old) old c.loop-place.values.items place None c.of.result within (c.of.ensures ∙ c.risen.ensures ∙ ap₂ risen_from value so_far.1) so_far.0,
      value ∙ before_next old place,
    )

pub returns : goal.returns
returns c =
    let old = c.args.values.now.items in
    let done : length old ≤ c.loop-place.place = search rules in
    placed_all (risen_at old) old c.loop-place.values.items c.loop-place.place done c.loop-place.invariant.0 ∙ rises_at old

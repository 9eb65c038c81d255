use Rattle.std.proofs.Common.{◌<◌, length, None, ap₂, ◌∙◌, rules}
use Rattle.series_funcs.specs.Shaped.{derivative_at, minus}
use Rattle.series_funcs.proofs.BackLemmas.{before_next, read_next}
use Rattle.series_funcs.proofs.PlaceByPlace.{placed_more}
use Rattle.series_funcs.proofs.looking_back.differ.Goals as goal

pub loop-place-preserved : goal.loop-place-preserved
loop-place-preserved c =
    let old = c.args.values.now.items in
    let place = c.loop-place.place in
    let within : place < length old = search rules in
    let so_far = c.loop-place.invariant in
    let value = read_next (derivative_at old) old c.loop-place.values.items place c.index-value.result.now within c.index-value.ensures so_far.0 in (
      placed_more (derivative_at old) old c.loop-place.values.items place None c.of.result within (c.of.ensures ∙ c.minus.ensures ∙ ap₂ minus value so_far.1) so_far.0,
      value ∙ before_next old place,
    )

use Rattle.std.proofs.Common.{◌<◌, ℤ, length, None, Some, ap, ap₂, ◌∙◌, rules}
use Rattle.std.specs.Option.{option_or}
use Rattle.series_funcs.specs.Shaped.{change_at, one_where}
use Rattle.series_funcs.proofs.BackLemmas.{change_is, last_next, read_next}
use Rattle.series_funcs.proofs.PlaceByPlace.{placed_more}
use Rattle.series_funcs.proofs.looking_back.tell_changes.Goals as goal

pub loop-place-preserved : goal.loop-place-preserved
loop-place-preserved c =
    let old = c.args.values.now.items in
    let place = c.loop-place.place in
    let within : place < length old = search rules in
    let so_far = c.loop-place.invariant in
    let value = read_next (change_at old) old c.loop-place.values.items place c.index-value.result.now within c.index-value.ensures so_far.0 in
    let one = c.known.ensures ∙ ap (λ (z : ℤ). Some z) (c.one_where.ensures ∙ ap one_where c.differs.ensures) ∙ change_is old place _ _ value so_far.1 in (
      placed_more (change_at old) old c.loop-place.values.items place None _ within one so_far.0,
      c.latest-last.ensures ∙ ap₂ option_or value so_far.1 ∙ last_next old place within,
    )

use Rattle.std.proofs.Common.{◌≡◌, ◌<◌, ◌≤◌, ◌+◌, ◌^◌, length, None, Some, to_z, sym, subst, ◌∙◌, arith, rules}
use Rattle.std.specs.Int.{w128}
use Rattle.series_set.proofs.SumLemmas.{sum_added}
use Rattle.series_funcs.specs.Shaped.{at, integral_at}
use Rattle.series_funcs.proofs.BackLemmas.{SumsUpTo, integral_known, integral_missing, read_next, sums_known, sums_missing}
use Rattle.series_funcs.proofs.PlaceByPlace.{placed_kept, placed_more}
use Rattle.series_funcs.proofs.looking_back.add_up.Goals as goal

pub loop-place-preserved-in_default : goal.loop-place-preserved-in_default
loop-place-preserved-in_default c =
    let old = c.args.values.now.items in
    let place = c.loop-place.place in
    let within : place < length old = search rules in
    let so_far = c.loop-place.invariant in
    let missing : at old place ≡ None = sym (read_next (integral_at old) old c.loop-place.values.items place c.index.result.now within c.index.ensures so_far.0) ∙ sym c.get.ensures ∙ c.in_default.is in (
      placed_kept (integral_at old) old c.loop-place.values.items place None within (integral_missing old place missing) so_far.0,
      sums_missing old place _ within missing so_far.1,
    )

pub loop-place-preserved : goal.loop-place-preserved
loop-place-preserved c =
    let old = c.args.values.now.items in
    let place = c.loop-place.place in
    let v = c.in-Some.value in
    let within : place < length old = search rules in
    let few : place + 1 ≤ 2 ^ 26 = omega (arith, within, c.requires) in
    let so_far = c.loop-place.invariant in
    let fits = c.wide-sum.ensures.fits in
    let found : at old place ≡ Some v = sym (read_next (integral_at old) old c.loop-place.values.items place c.index.result.now within c.index.ensures so_far.0) ∙ sym c.get.ensures ∙ c.in-Some.is in
    let done = sums_known old place (to_z w128 c.loop-place.sum-bits) v within found fits so_far.1 in
    let same = sum_added (place + 1) (to_z w128 c.loop-place.sum-bits) v c.wide-sum.result few done.within fits (c.wide-sum.ensures.value) in
    let sums = subst (SumsUpTo old (place + 1)) (sym same) done in (
      placed_more (integral_at old) old c.loop-place.values.items place None _ within (c.of.ensures ∙ c.narrow.ensures.value ∙ integral_known old place _ v found sums) so_far.0,
      sums,
    )

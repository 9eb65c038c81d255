use Rattle.std.proofs.Common.{◌≡◌, ◌<◌, ◌+◌, ℤ, Option, drop, length, None, Some, refl, sym, ap, subst, ◌∙◌, rules}
use Rattle.std.proofs.lemmas.List.{take_rest}
use Rattle.series_funcs.specs.Shaped.{at, kept_at}
use Rattle.series_funcs.proofs.BackLemmas.{read_next}
use Rattle.series_funcs.proofs.GapLemmas.{Fills, fill_first, filled_more, fills_known, kept_known}
use Rattle.series_funcs.proofs.PlaceByPlace.{placed_kept}
use Rattle.series_funcs.proofs.looking_back.keep_last.Goals.{then-not-in_gap, else-not-in_gap}
use Rattle.series_funcs.proofs.looking_back.keep_last.Goals as goal

pub loop-place-preserved-in-Some : goal.loop-place-preserved-in-Some
loop-place-preserved-in-Some c =
    let old = c.args.values.now.items in
    let most = c.args.most in
    let place = c.loop-place.place in
    let v = c.in-Some.value in
    let within : place < length old = search rules in
    let so_far = c.loop-place.invariant in
    let found : at old place ≡ Some v = sym (read_next (kept_at most old) old c.loop-place.values.items place c.index.result.now within c.index.ensures so_far.0) ∙ sym c.get.ensures ∙ c.in-Some.is in (
      placed_kept (kept_at most old) old c.loop-place.values.items place None within (kept_known most old place v found) so_far.0,
      subst (λ (l : Option ℤ). Fills most old (place + 1) l _ c.loop-place.fill) (sym c.known-last.ensures) (fills_known most old place v c.loop-place.fill within found),
    )

pub loop-place-preserved : goal.loop-place-preserved
loop-place-preserved c =
    let old = c.args.values.now.items in
    let most = c.args.most in
    let now = c.loop-place.values.items in
    let place = c.loop-place.place in
    let last = c.loop-place.last in
    let within : place < length old = search rules in
    let so_far = c.loop-place.invariant in
    let missing : at old place ≡ None = sym (read_next (kept_at most old) old now place c.index.result.now within c.index.ensures so_far.0) ∙ sym c.get.ensures ∙ c.in_default.is in
    elim c.if-not-in_gap.branch [
      | then-not-in_gap w ↦ filled_more most old now place last _ _ _ refl within missing so_far.1.last_is so_far.0 w.in_gap-is
          (w.fill-is ∙ w.fill_for-fill.ensures ∙ fill_first most old now place last c.loop-place.fill c.loop-place.in_gap _ so_far.0 so_far.1 w.if-not-in_gap.true (take_rest w.deref.result.now place ∙ ap (drop place) w.deref.ensures.value))
      | else-not-in_gap w ↦ filled_more most old now place last _ _ _ refl within missing so_far.1.last_is so_far.0 (w.in_gap-is ∙ w.if-not-in_gap.false) (w.fill-is ∙ so_far.1.fill_is w.if-not-in_gap.false)
    ]

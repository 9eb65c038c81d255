use Rattle.std.proofs.Common.{◌≡◌, ◌+◌, ◌-◌, ◌<◌, ℕ, Some, length, slice_get, arith, refl, subst}
use Rattle.std.proofs.lemmas.Option.{slice_get_read}
use Rattle.aggregate_rules.specs.RulePlaces.{IsIndexFrom, front_classes}
use Rattle.aggregate_rules.proofs.IndexLemmas.{empty_is, with_rule_is}
use Rattle.aggregate_rules.proofs.rule_index.RuleIndex.of.Goals as goal

pub loop-place-init : goal.loop-place-init
loop-place-init c = record { is = rw c.in_ok-index.ensures (empty_is c.args.rules.now); within = omega arith }

pub loop-place-preserved : goal.loop-place-preserved
loop-place-preserved c =
    let rules = c.args.rules.now in
    let place : ℕ = c.loop-place.place - 1 in
    let rule = c.index-rules-place.result in
    let some : 0 < c.loop-place.place = c.loop-place-test.true in
    let before : c.loop-place.place ≡ place + 1 = omega (arith, some) in
    let at : slice_get rules place ≡ Some rule = slice_get_read rules (length rules) place rule refl (omega (arith, some, c.loop-place.invariant.within)) c.index-rules-place.is in
    let is : IsIndexFrom rules (place + 1) c.loop-place.index = subst (λ (k : ℕ). IsIndexFrom rules k c.loop-place.index) before c.loop-place.invariant.is in
    let few = subst (λ (k : ℕ). k < front_classes) c.class.ensures.value c.class.ensures.within in
    record {
      is = rw (c.put.ensures, c.class.ensures.value) (with_rule_is rules place c.loop-place.index rule at few is);
      within = omega (arith, c.loop-place.invariant.within);
    }

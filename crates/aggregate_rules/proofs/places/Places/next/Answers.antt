use Rattle.std.proofs.Common.{◌∙◌, sym}
use Rattle.aggregate_rules.specs.RulePlaces.{behind_last}
use Rattle.aggregate_rules.proofs.PlaceLemmas.{next_place, no_next}
use Rattle.aggregate_rules.proofs.places.Places.next.Goals as goal

pub returns-in_err-place : goal.returns-in_err-place
returns-in_err-place c =
    let p = c.self.inside in
    rw (c.from_residual.ensures, sym c.self.view_is)
    (no_next p.rules.now p.class (behind_last p.last) p.own p.common c.self.invariant.0 c.self.invariant.1 (sym c.in_err-place.was ∙ c.least.ensures))

pub behind-self-inside-requires-clause-within : goal.behind-self-inside-requires-clause-within
behind-self-inside-requires-clause-within c =
    let p = c.self.inside in
    (next_place p.rules.now p.class (behind_last p.last) p.own p.common c.in_ok-place.place c.self.invariant.0 c.self.invariant.1 (sym c.in_ok-place.was ∙ c.least.ensures)).within

pub behind-self-inside-requires-2-clause-within : goal.behind-self-inside-requires-2-clause-within
behind-self-inside-requires-2-clause-within c =
    let p = c.self.inside in
    (next_place p.rules.now p.class (behind_last p.last) p.own p.common c.in_ok-place.place c.self.invariant.0 c.self.invariant.1 (sym c.in_ok-place.was ∙ c.least.ensures)).within

pub invariant_of-self : goal.invariant_of-self
invariant_of-self c =
    let p = c.self.inside in
    let n = next_place p.rules.now p.class (behind_last p.last) p.own p.common c.in_ok-place.place c.self.invariant.0 c.self.invariant.1 (sym c.in_ok-place.was ∙ c.least.ensures) in
    (c.behind-self-inside.ensures p.class (behind_last p.last) n.low c.self.invariant.0, c.behind-self-inside-2.ensures 0 (behind_last p.last) n.low c.self.invariant.1)

pub returns : goal.returns
returns c =
    let p = c.self.inside in
    rw (sym c.self.view_is)
    (next_place p.rules.now p.class (behind_last p.last) p.own p.common c.in_ok-place.place c.self.invariant.0 c.self.invariant.1 (sym c.in_ok-place.was ∙ c.least.ensures)).list

use Rattle.std.proofs.Common.{◌≤◌, None, Some, subst}
use Rattle.aggregate_rules.specs.RulePlaces.{IsFirst}
use Rattle.aggregate_rules.proofs.PlaceLemmas.{apart, behind_other}
use Rattle.aggregate_rules.proofs.places.behind.Goals as goal

pub returns-in_default : goal.returns-in_default
returns-in_default c = λ class from le is. behind_other c.args.rules.now class from c.args.place None le (subst (IsFirst c.args.rules.now class from) c.in_default.is is) (λ at e. absurd cc)

pub returns : goal.returns
returns c =
    let low : c.args.place ≤ c.in-Some.at = rw c.in-Some.is at c.requires.least in
    λ class from le is.
    behind_other c.args.rules.now class from c.args.place (Some c.in-Some.at) le (subst (IsFirst c.args.rules.now class from) c.in-Some.is is)
    (λ k e. apart c.args.place c.in-Some.at k low c.if-at-place.false e)

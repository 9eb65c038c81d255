use Rattle.std.proofs.Common.{ℕ, Option, subst}
use Rattle.drain_order.specs.Picking.{Picks}
use Rattle.shard_core.specs.Halves.{desk_of}
use Rattle.shard_core.proofs.SteppingLemmas.{goes_next, nothing_next}
use Rattle.shard_core.proofs.desk.Desk.next.Goals as goal

pub returns-in_default-clause-next : goal.returns-in_default-clause-next
returns-in_default-clause-next c =
    let old = c.args.self.now in
    nothing_next (desk_of old) (desk_of c.pick.new.self) (subst (λ (place : Option ℕ). Picks old.picker c.pick.new.self.picker old.cache place) c.in_default.is c.in_ok-place.ensures.picks)

pub returns-clause-next : goal.returns-clause-next
returns-clause-next c =
    let old = c.args.self.now in
    let picks = subst (λ (place : Option ℕ). Picks old.picker c.pick.new.self.picker old.cache place) c.in-Some.is c.in_ok-place.ensures.picks in
    goes_next (desk_of old) (desk_of c.pick.new.self) c.in-Some.place c.in_ok-metric.metric c.in_ok-place.ensures.only picks old.metrics c.in_ok-metric.ensures.there c.in_ok-metric.ensures.sound

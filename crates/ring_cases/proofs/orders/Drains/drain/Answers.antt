use Rattle.std.proofs.Common.{Option, subst, sym, ℕ}
use Rattle.point_cache.specs.Pending.{Cache}
use Rattle.drain_order.specs.Picking.{Follows, Picks}
use Rattle.drain_order.proofs.StayLemmas.{pick_keeps_follows, settled_follows}
use Rattle.ring_cases.proofs.orders.Drains.drain.Goals as goal

pub invariant_of-self : goal.invariant_of-self
invariant_of-self c = record {
  follows = pick_keeps_follows c.args.self.now.picker c.pick.new.self c.args.self.now.cache c.pick.result c.pick.ensures.picks c.pick.ensures.err c.args.self.now.follows;
}

pub invariant_of-self-in-None : goal.invariant_of-self-in-None
invariant_of-self-in-None c = record {
  follows = pick_keeps_follows c.args.self.now.picker c.pick.new.self c.args.self.now.cache c.pick.result c.pick.ensures.picks c.pick.ensures.err c.args.self.now.follows;
}

pub invariant_of-self-in-Some : goal.invariant_of-self-in-Some
invariant_of-self-in-Some c = record {
  follows = subst (λ (cache : Cache). Follows c.settle.new.self cache.metrics) (sym c.take-path.ensures.others)
      (settled_follows c.args.self.now.picker c.pick.new.self c.settle.new.self c.args.self.now.cache c.in-Some.place c.take-path.result.0
      (subst (λ (p : Option ℕ). Picks c.args.self.now.picker c.pick.new.self c.args.self.now.cache p) c.in-Some.is c.in_ok-place.ensures.picks) c.take-path.ensures.path c.settle.ensures);
}

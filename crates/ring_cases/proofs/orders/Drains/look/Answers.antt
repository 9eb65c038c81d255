use Rattle.drain_order.proofs.StayLemmas.{pick_keeps_follows}
use Rattle.ring_cases.proofs.orders.Drains.look.Goals as goal

pub invariant_of-self : goal.invariant_of-self
invariant_of-self c = record {
  follows = pick_keeps_follows c.args.self.now.picker c.pick.new.self c.args.self.now.cache c.pick.result c.pick.ensures.picks c.pick.ensures.err c.args.self.now.follows;
}

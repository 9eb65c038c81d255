use Rattle.drain_order.proofs.StayLemmas.{puts_keep_follows}
use Rattle.ring_cases.proofs.orders.Drains.put.Goals as goal

pub invariant_of-self : goal.invariant_of-self
invariant_of-self c = record {
  follows = puts_keep_follows c.args.self.now.picker c.args.self.now.cache c.put.new.self _ _ _ c.put.result c.put.ensures c.args.self.now.follows;
}

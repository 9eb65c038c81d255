use Rattle.drain_order.proofs.StayLemmas.{rest_once, rest_queues}
use Rattle.drain_order.proofs.picker.Picker.settle.Goals as goal

pub invariant_of-self : goal.invariant_of-self
invariant_of-self c =
    rw (c.advance.ensures, c.advance-2.ensures) (rest_queues c.self.inside.strategy c.self.inside.queue c.self.inside.arrived c.self.invariant.0, rest_once c.self.inside.queue c.self.invariant.1)

use Rattle.drain_order.proofs.StayLemmas.{new_queues, none_once}
use Rattle.drain_order.proofs.picker.Picker.new.Goals as goal

pub invariant_of-result : goal.invariant_of-result
invariant_of-result c = rw (c.new.ensures, c.new-2.ensures) (new_queues c.args.strategy, none_once)

use Rattle.drain_order.proofs.StayLemmas.{drained_follows}
use Rattle.drain_order.proofs.laws.picker_follows_drains.Goals as goal

pub returns : goal.returns
returns c = drained_follows

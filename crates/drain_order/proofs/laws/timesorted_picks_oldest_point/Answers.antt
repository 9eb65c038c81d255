use Rattle.drain_order.proofs.PickLemmas.{timesorted_is_first}
use Rattle.drain_order.proofs.laws.timesorted_picks_oldest_point.Goals as goal

pub returns : goal.returns
returns c = timesorted_is_first

use Rattle.drain_order.proofs.PickLemmas.{max_is_first}
use Rattle.drain_order.proofs.laws.max_picks_most_points.Goals as goal

pub returns : goal.returns
returns c = max_is_first

use Rattle.drain_order.proofs.StayLemmas.{new_follows}
use Rattle.drain_order.proofs.laws.new_picker_follows_anything.Goals as goal

pub returns : goal.returns
returns c = new_follows

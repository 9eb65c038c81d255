use Rattle.drain_order.proofs.StayLemmas.{put_keeps_follows}
use Rattle.drain_order.proofs.laws.picker_follows_puts.Goals as goal

pub returns : goal.returns
returns c = put_keeps_follows

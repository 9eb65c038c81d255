use Rattle.std.proofs.Common.{rules}
use Rattle.shared_history.proofs.StartLemmas.{tails}
use Rattle.shared_history.proofs.making.add_tail.Goals as goal

pub split_seat-seat-requires : goal.split_seat-seat-requires
split_seat-seat-requires c = (search rules, search rules, tails c.order.inside.seat.id c.order.inside.seat.me.0)

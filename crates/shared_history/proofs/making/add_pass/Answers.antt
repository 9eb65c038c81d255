use Rattle.std.proofs.Common.{rules}
use Rattle.shared_history.proofs.StartLemmas.{passes}
use Rattle.shared_history.proofs.making.add_pass.Goals as goal

pub split_seat-seat-requires : goal.split_seat-seat-requires
split_seat-seat-requires c = (search rules, search rules, passes c.order.inside.seat.id c.order.inside.seat.me.0 (search rules))

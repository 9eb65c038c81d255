use Rattle.std.proofs.Common.{rules}
use Rattle.shared_history.proofs.RightLemmas.{lends}
use Rattle.shared_history.proofs.rights.lend.Goals as goal

pub split_seat-requires : goal.split_seat-requires
split_seat-requires c = (search rules, search rules, lends c.args.seat.now.id c.args.seat.now.me.0)

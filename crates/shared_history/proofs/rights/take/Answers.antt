use Rattle.std.proofs.Common.{rules}
use Rattle.shared_history.proofs.RightLemmas.{takes}
use Rattle.shared_history.proofs.rights.take.Goals as goal

pub join_seat-requires : goal.join_seat-requires
join_seat-requires c = (search rules, search rules, search rules, search rules, takes c.args.seat.now.id c.args.seat.now.me.0 c.args.right.id c.args.right.me.0 c.requires.alone)

use Rattle.std.proofs.Common.{rules}
use Rattle.shared_history.proofs.RightLemmas.{notes}
use Rattle.shared_history.proofs.seeing.note.Goals as goal

pub split_seat-requires : goal.split_seat-requires
split_seat-requires c = (search rules, search rules, notes c.pass.inside.seat.id c.pass.inside.seat.me.0)

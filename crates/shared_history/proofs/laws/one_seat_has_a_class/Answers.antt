use Rattle.shared_history.proofs.PartLemmas.{one_tail}
use Rattle.shared_history.proofs.laws.one_seat_has_a_class.Goals as goal

pub returns : goal.returns
returns c = one_tail

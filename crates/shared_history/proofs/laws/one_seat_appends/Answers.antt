use Rattle.shared_history.proofs.PartLemmas.{one_order}
use Rattle.shared_history.proofs.laws.one_seat_appends.Goals as goal

pub returns : goal.returns
returns c = one_order

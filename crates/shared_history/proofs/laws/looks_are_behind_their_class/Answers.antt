use Rattle.shared_history.proofs.PartLemmas.{looks_behind}
use Rattle.shared_history.proofs.laws.looks_are_behind_their_class.Goals as goal

pub returns : goal.returns
returns c = looks_behind

use Rattle.shared_history.proofs.PartLemmas.{looks_of_made}
use Rattle.shared_history.proofs.laws.looks_are_of_classes_that_were_made.Goals as goal

pub returns : goal.returns
returns c = looks_of_made

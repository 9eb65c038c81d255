use Rattle.carbon_model.proofs.HistoryLemmas.{legal_parts}
use Rattle.carbon_model.proofs.laws.fronts_are_legal.Goals as goal

pub returns : goal.returns
returns c = legal_parts

use Rattle.carbon_model.proofs.HistoryLemmas.{replay-append}
use Rattle.carbon_model.proofs.laws.replay_in_parts.Goals as goal

pub returns : goal.returns
returns c = replay-append

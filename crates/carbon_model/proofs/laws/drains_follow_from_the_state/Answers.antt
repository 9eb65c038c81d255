use Rattle.carbon_model.proofs.DrainLemmas.{one_goes_on}
use Rattle.carbon_model.proofs.SoundLemmas.{one_drain}
use Rattle.carbon_model.proofs.laws.drains_follow_from_the_state.Goals as goal

pub returns-clause-fronts : goal.returns-clause-fronts
returns-clause-fronts c = one_goes_on

pub returns-clause-one : goal.returns-clause-one
returns-clause-one c = one_drain

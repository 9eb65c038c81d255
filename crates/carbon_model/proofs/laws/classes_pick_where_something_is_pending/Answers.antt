use Rattle.carbon_model.proofs.SoundLemmas.{none_picked}
use Rattle.carbon_model.proofs.laws.classes_pick_where_something_is_pending.Goals as goal

pub returns : goal.returns
returns c = none_picked

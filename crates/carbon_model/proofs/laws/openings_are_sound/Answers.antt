use Rattle.carbon_model.proofs.SoundLemmas.{opening_is_sound}
use Rattle.carbon_model.proofs.laws.openings_are_sound.Goals as goal

pub returns : goal.returns
returns c = opening_is_sound

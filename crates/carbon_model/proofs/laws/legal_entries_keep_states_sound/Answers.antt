use Rattle.carbon_model.proofs.SoundLemmas.{legal_keeps_sound}
use Rattle.carbon_model.proofs.laws.legal_entries_keep_states_sound.Goals as goal

pub returns : goal.returns
returns c = legal_keeps_sound

use Rattle.carbon_model.proofs.SoundLemmas.{run_is_sound, run_knows_legal}
use Rattle.carbon_model.proofs.laws.runs_know_legal_paths_alone.Goals as goal

pub returns-clause-sound : goal.returns-clause-sound
returns-clause-sound c = run_is_sound

pub returns-clause-legal : goal.returns-clause-legal
returns-clause-legal c = run_knows_legal

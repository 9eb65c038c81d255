use Rattle.target_parse.proofs.SoundLemmas.{target_sound}
use Rattle.target_parse.proofs.laws.what_is_read_is_in_the_grammar.Goals as goal

pub returns : goal.returns
returns c = λ text. target_sound text

use Rattle.path_glob.proofs.StretchLemmas.{path_fills}
use Rattle.path_glob.proofs.laws.globs_are_whole_stretches.Goals as goal

pub returns : goal.returns
returns c = λ glob legal. path_fills glob legal

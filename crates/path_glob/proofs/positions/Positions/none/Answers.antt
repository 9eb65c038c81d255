use Rattle.path_glob.proofs.BitLemmas.{none_held}
use Rattle.path_glob.proofs.positions.Positions.none.Goals as goal

pub returns : goal.returns
returns c = λ j. none_held 4 j

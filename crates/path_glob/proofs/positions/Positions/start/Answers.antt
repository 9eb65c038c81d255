use Rattle.std.proofs.Common.{arith, ◌∷◌, []}
use Rattle.path_glob.proofs.BitLemmas.{first_alone, first_word}
use Rattle.path_glob.proofs.positions.Positions.start.Goals as goal

pub returns-clause-first : goal.returns-clause-first
returns-clause-first c = first_word 1 (0 ∷ 0 ∷ 0 ∷ []) 0 (omega arith)

pub returns-clause-other : goal.returns-clause-other
returns-clause-other c = λ j later. first_alone 3 j later

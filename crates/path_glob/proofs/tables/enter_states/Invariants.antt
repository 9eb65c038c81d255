use Rattle.path_glob.proofs.TableLemmas.{StatesIn}
use Rattle.path_glob.proofs.tables.enter_states.Given as goal

abbrev pub invariant-loop-place : goal.invariant-loop-place
invariant-loop-place l = StatesIn l.states l.over l.place

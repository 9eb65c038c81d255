use Rattle.path_glob.proofs.WordLemmas.{FoundMeet}
use Rattle.path_glob.proofs.bits.words_meet.Given as goal

abbrev pub invariant-loop-k : goal.invariant-loop-k
invariant-loop-k l = FoundMeet l.words l.others l.common l.k

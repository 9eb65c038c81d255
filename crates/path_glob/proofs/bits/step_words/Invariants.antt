use Rattle.std.proofs.Common.{◌≡◌}
use Rattle.path_glob.proofs.WordLemmas.{AreMoved, moving_before}
use Rattle.path_glob.proofs.bits.step_words.Given as goal

abbrev pub invariant-loop-k : goal.invariant-loop-k
invariant-loop-k l = record {
  before : l.before ≡ moving_before l.fn.words l.on l.k;
  moved : AreMoved l.fn.words l.on l.stay l.words l.k;
}

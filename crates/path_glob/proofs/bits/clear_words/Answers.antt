use Rattle.std.proofs.Common.{arith}
use Rattle.path_glob.proofs.WordLemmas.{none_in}
use Rattle.path_glob.proofs.bits.clear_words.Goals as goal

pub returns : goal.returns
returns c = none_in c.loop-k.words (λ k within. c.loop-k.invariant k (omega (arith, within)))

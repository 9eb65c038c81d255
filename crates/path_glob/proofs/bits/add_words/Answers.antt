use Rattle.std.proofs.Common.{arith}
use Rattle.path_glob.proofs.WordLemmas.{either_bits}
use Rattle.path_glob.proofs.bits.add_words.Goals as goal

pub returns : goal.returns
returns c =
    either_bits c.args.words.now c.args.others.now c.loop-k.words c.requires (omega arith) (λ k within. c.loop-k.invariant.done k (omega (arith, within)))

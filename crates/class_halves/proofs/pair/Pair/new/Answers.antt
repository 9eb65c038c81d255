use Rattle.class_halves.proofs.HalfLemmas.{opens}
use Rattle.class_halves.proofs.pair.Pair.new.Goals as goal

pub of_words-requires : goal.of_words-requires
of_words-requires c = opens c.as_slice.result.now

use Rattle.std.proofs.Common.{arith}
use Rattle.path_glob.proofs.BitLemmas.{word_first, word_next}
use Rattle.path_glob.proofs.positions.next_word.Goals as goal

pub returns-clause-first : goal.returns-clause-first
returns-clause-first c = word_first c.args.word c.args.before

pub returns-clause-next : goal.returns-clause-next
returns-clause-next c = λ i low. word_next c.args.word c.args.before i (omega arith) low

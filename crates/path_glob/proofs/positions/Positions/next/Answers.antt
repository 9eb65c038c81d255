use Rattle.std.proofs.Common.{◌∷◌, []}
use Rattle.path_glob.proofs.BitLemmas.{next_first, next_of_four}
use Rattle.path_glob.proofs.positions.Positions.next.Goals as goal

pub returns-clause-first : goal.returns-clause-first
returns-clause-first c = next_first c.next_word.result _ c.next_word.ensures.first

pub returns-clause-next : goal.returns-clause-next
returns-clause-next c = λ j small.
    next_of_four c.args.self.words (c.next_word.result ∷ c.next_word-2.result ∷ c.next_word-3.result ∷ c.next_word-4.result ∷ []) j
    ((c.next_word.ensures.first, c.next_word.ensures.next, (c.next_word-2.ensures.first, c.next_word-2.ensures.next, (c.next_word-3.ensures.first, c.next_word-3.ensures.next, (c.next_word-4.ensures.first, c.next_word-4.ensures.next, tt)))))
    small

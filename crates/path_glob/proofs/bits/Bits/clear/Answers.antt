use Rattle.std.proofs.Common.{◌≡◌, ◌∙◌, ℕ, List, ap, sym, arith, length}
use Rattle.path_glob.specs.Positions.{bit_of}
use Rattle.path_glob.proofs.WordLemmas.{written_back}
use Rattle.path_glob.proofs.bits.Bits.clear.Goals as goal

pub returns-clause-none : goal.returns-clause-none
returns-clause-none c = λ p.
    let words = c.self.inside.words in
    let new = c.clear_words.new.words in
    let size : length words.items ≡ words.len = ap length (sym c.as_mut_slice.ensures.value) ∙ c.as_mut_slice.ensures.len in
    let kept : length new ≡ words.len = omega (arith, size, c.clear_words.auto.words, ap length c.as_mut_slice.ensures.value) in
    ap (λ (l : List ℕ). bit_of l p) (written_back words.len new words.items kept size) ∙ c.clear_words.ensures p

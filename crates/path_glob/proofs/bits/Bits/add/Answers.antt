use Rattle.std.proofs.Common.{◌≡◌, ◌∙◌, ◌||◌, ℕ, List, ap, ap₂, sym, arith, length}
use Rattle.path_glob.specs.Positions.{bit_of}
use Rattle.path_glob.proofs.WordLemmas.{written_back}
use Rattle.path_glob.proofs.bits.Bits.add.Goals as goal

pub returns-clause-either : goal.returns-clause-either
returns-clause-either c = λ p.
    let words = c.self.inside.words in
    let new = c.add_words.new.words in
    let size : length words.items ≡ words.len = ap length (sym c.as_mut_slice.ensures.value) ∙ c.as_mut_slice.ensures.len in
    let kept : length new ≡ words.len = omega (arith, size, c.add_words.auto.words, ap length c.as_mut_slice.ensures.value) in
    ap (λ (l : List ℕ). bit_of l p) (written_back words.len new words.items kept size) ∙ c.add_words.ensures p
    ∙ ap₂ (λ (xs ys : List ℕ). bit_of xs p || bit_of ys p) (c.as_mut_slice.ensures.value ∙ c.self.view_is) (c.as_slice.ensures.value ∙ c.others.view_is)

use Rattle.std.proofs.Common.{◌≡◌, ◌<◌, ◌*◌, ◌∙◌, ◌||◌, ◌&&◌, ℕ, List, ap, sym, subst, arith, length}
use Rattle.path_glob.specs.Bits.{shifted}
use Rattle.path_glob.specs.Positions.{bit_of}
use Rattle.path_glob.proofs.WordLemmas.{written_back}
use Rattle.path_glob.proofs.bits.Bits.step.Goals as goal

pub returns-clause-moved : goal.returns-clause-moved
returns-clause-moved c = λ p within.
    let words = c.self.inside.words in
    let new = c.step_words.new.words in
    let size : length words.items ≡ words.len = ap length (sym c.as_mut_slice.ensures.value) ∙ c.as_mut_slice.ensures.len in
    let kept : length new ≡ words.len = omega (arith, size, c.step_words.auto.words, ap length c.as_mut_slice.ensures.value) in
    let old = c.as_mut_slice.ensures.value ∙ c.self.view_is in
    let on = c.as_slice.ensures.value ∙ c.on.view_is in
    let stay = c.as_slice-2.ensures.value ∙ c.stay.view_is in
    let near : p < 64 * length c.as_mut_slice.result.now = subst (λ (l : List ℕ). p < 64 * length l) (sym old) within in
    ap (λ (l : List ℕ). bit_of l p) (written_back words.len new words.items kept size) ∙ c.step_words.ensures p near
    ∙ ap (λ (xs : List ℕ). shifted (λ q. bit_of xs q && bit_of c.as_slice.result.now q) p || (bit_of xs p && bit_of c.as_slice-2.result.now p)) old
    ∙ ap (λ (ys : List ℕ). shifted (λ q. bit_of c.args.self.now q && bit_of ys q) p || (bit_of c.args.self.now p && bit_of c.as_slice-2.result.now p)) on
    ∙ ap (λ (zs : List ℕ). shifted (λ q. bit_of c.args.self.now q && bit_of c.args.on.now q) p || (bit_of c.args.self.now p && bit_of zs p)) stay

use Rattle.std.proofs.Common.{◌∙◌, ◌/◌, ◌%◌, ◌*◌, ◌^◌, ◌<◌, ℕ, List, ap, subst, sym, length, set}
use Rattle.std.specs.Int.Bits.{bit_or}
use Rattle.path_glob.specs.Positions.{bit_of}
use Rattle.path_glob.proofs.BitLemmas.{added_held, others_held}
use Rattle.path_glob.proofs.PlaceLemmas.{any_default}
use Rattle.path_glob.proofs.bits.Bits.insert.Goals as goal

pub returns-clause-added : goal.returns-clause-added
returns-clause-added c =
    let words = c.self.inside.words.items in
    let place = c.args.place in
    let within : place / 64 < length words = subst (λ (l : List ℕ). place / 64 < length l) (sym c.self.view_is) c.requires in
    ap (λ (w : ℕ). bit_of (set words (place / 64) (bit_or w (1 * 2 ^ (place % 64) % 2 ^ 64))) place) (c.index_mut.ensures.value ∙ any_default words (place / 64) c.index_mut.result.now 0 within) ∙ added_held words place within

pub returns-clause-others : goal.returns-clause-others
returns-clause-others c = λ j other.
    let words = c.self.inside.words.items in
    let place = c.args.place in
    let within : place / 64 < length words = subst (λ (l : List ℕ). place / 64 < length l) (sym c.self.view_is) c.requires in
    ap (λ (w : ℕ). bit_of (set words (place / 64) (bit_or w (1 * 2 ^ (place % 64) % 2 ^ 64))) j) (c.index_mut.ensures.value ∙ any_default words (place / 64) c.index_mut.result.now 0 within)
    ∙ others_held words place j within other ∙ ap (λ (l : List ℕ). bit_of l j) c.self.view_is

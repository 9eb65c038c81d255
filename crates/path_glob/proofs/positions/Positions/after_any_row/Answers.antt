use Rattle.std.proofs.Common.{◌∷◌, [], arith, subst, sym, get_or, ℕ}
use Rattle.std.specs.Int.Bits.{or_zero_l}
use Rattle.path_glob.proofs.BitLemmas.{AreOnward, onward_of_four}
use Rattle.path_glob.proofs.positions.Positions.after_any_row.Goals as goal

pub returns : goal.returns
returns c = λ j small.
    let ws = c.args.self.words in
    let a = get_or ws 0 0 in
    let b = get_or ws 1 0 in
    let first = sym (or_zero_l a) in
    onward_of_four ws (c.onward.result ∷ c.onward-2.result ∷ c.onward-3.result ∷ c.onward-4.result ∷ []) j
    ((
      c.onward.ensures.lowest,
      c.onward.ensures.bits,
      subst (λ (n : ℕ). AreOnward n (b ∷ get_or ws 2 0 ∷ get_or ws 3 0 ∷ []) (c.onward-2.result ∷ c.onward-3.result ∷ c.onward-4.result ∷ [])) first
          (c.onward-2.ensures.lowest, c.onward-2.ensures.bits, (c.onward-3.ensures.lowest, c.onward-3.ensures.bits, (c.onward-4.ensures.lowest, c.onward-4.ensures.bits, tt))),
    ))
    (omega (arith, small))

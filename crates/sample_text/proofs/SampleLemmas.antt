-- The lines of a sample, one after the other.
use Rattle.std.proofs.Common.{◌≡◌, ℕ, zero, suc, ◌+◌, ◌-◌, ◌<◌, List, [], ◌++◌, refl, arith}
use Rattle.sample_text.specs.Sample.{lines_text, next_seed, points_text}

-- the lines of one number, and those behind them
pub one_more : (seed number todo : ℕ) → 0 < todo → points_text seed number todo ≡ lines_text (next_seed seed) number ++ points_text (next_seed seed) (number + 1) (todo - 1)
unfolding points_text
one_more seed number zero some = absurd (omega (arith, some))
one_more seed number (suc todo) some = let e : suc todo - 1 ≡ todo = omega arith in rw e refl

-- nothing is left once the last lines were given
pub none_left : (rest : List ℕ) (seed number todo : ℕ) → rest ≡ [] → todo ≡ 0 → rest ++ points_text seed number todo ≡ []
unfolding points_text
none_left rest seed number todo none all = rw none (rw all refl)

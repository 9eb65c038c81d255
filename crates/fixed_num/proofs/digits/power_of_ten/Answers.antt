-- The table is held against the powers, one by one, by computing.
use Rattle.std.proofs.Common.{◌≡◌, ℕ, zero, suc, ◌<◌, ◌^◌, Bool, true, ◌&&◌, nat_eq, get_or, List, refl, arith, inl, inr, eqb-true}
use Rattle.std.proofs.lemmas.Bool.{and_parts, cases_eq}
use Rattle.fixed_num.specs.declared.digits.TheConstants.{POWERS_OF_TEN}
use Rattle.fixed_num.proofs.digits.power_of_ten.Goals as goal

-- the table has the first n powers
powers_below : List ℕ → ℕ → Bool
powers_below table zero = true
powers_below table (suc n) = nat_eq (get_or table n 0) (10 ^ n) && powers_below table n

power_at : (table : List ℕ) (n : ℕ) → powers_below table n ≡ true → (k : ℕ) → k < n → get_or table k 0 ≡ 10 ^ k
unfolding powers_below
power_at table zero h k lt = absurd (omega arith)
power_at table (suc n) h k lt =
    let both = and_parts (nat_eq (get_or table n 0) (10 ^ n)) (powers_below table n) h in
    elim (cases_eq k n) [ inl same ↦ rw same (eqb-true (get_or table n 0) (10 ^ n) both.0) | inr other ↦ power_at table n both.1 k (omega arith) ]

from_table : (table : List ℕ) (k : ℕ) → k < 19 → powers_below table 19 ≡ true → get_or table k 0 ≡ 10 ^ k
from_table table k lt h = power_at table 19 h k lt

pub returns : goal.returns
unfolding powers_below
returns c = from_table POWERS_OF_TEN c.args.exponent (omega arith) refl

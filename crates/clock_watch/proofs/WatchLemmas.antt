-- Moments.
use Rattle.std.proofs.Common.{◌≡◌, ◌≤◌, ℕ, true, arith}
use Rattle.std.proofs.lemmas.Bool.Decides.{nat_tests}
use Rattle.fixed_num.specs.Moment.{is_moment}

-- a moment is less than 2^32
pub moment_fits : (now : ℕ) → is_moment now ≡ true → now ≤ 4000000000
moment_fits now moment = grind (arith, nat_tests)

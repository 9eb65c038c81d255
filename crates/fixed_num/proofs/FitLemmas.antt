-- Which numbers are values, and that no test of the readers lets a number past those through.
use Rattle.std.proofs.Common.{◌≡◌, ◌<◌, ◌^◌, ◌↔◌, ℤ, pos, negsuc, Bool, true, false, unsigned_abs, arith}
use Rattle.std.proofs.lemmas.Bool.{le-leb, le-ltb, leb-true, lt-leb}
use Rattle.fixed_num.specs.Decimal.{fits, fits_i64}
use Rattle.fixed_num.specs.Milli.{IsMilli}

pub fits_is_milli : (number : ℤ) → IsMilli number ↔ fits number ≡ true
fits_is_milli number = (λ few. le-leb (unsigned_abs number) (10 ^ 30) few, λ test. leb-true (unsigned_abs number) (10 ^ 30) test)

-- no number past the values passes the test
abbrev pub IsWithinValues : (ℤ → Bool) → Type 0
IsWithinValues fit = (number : ℤ) → 10 ^ 30 < unsigned_abs number → fit number ≡ false

pub values_are_within : IsWithinValues fits
values_are_within number past = lt-leb (unsigned_abs number) (10 ^ 30) past

pub i64_is_within : IsWithinValues fits_i64
i64_is_within (pos n) past = le-ltb n (2 ^ 63) (omega (arith, past))
i64_is_within (negsuc n) past = le-ltb n (2 ^ 63) (omega (arith, past))

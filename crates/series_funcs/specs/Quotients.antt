-- Exact results, and quotients rounded down: towards the lesser number.
use Rattle.std.specs.Prelude.{suc, ℤ, pos, negsuc, neg_ℤ, ◌*ℤ◌, ◌==◌, Bool, false, Option, None, if◌then◌else◌}
use Rattle.std.specs.Int.{int_div_euclid}
use Rattle.fixed_num.specs.Milli.{value_of}

-- the quotient, rounded down: one by a negative number is that of both numbers negated
abbrev pub floor_quotient : ℤ → ℤ → ℤ
floor_quotient a (pos b) = int_div_euclid a (pos b)
floor_quotient a (negsuc b) = int_div_euclid (neg_ℤ a) (pos (suc b))

-- the product of two values in thousandths
unfoldable pub times : ℤ → ℤ → Option ℤ
times a b = value_of (floor_quotient (a *ℤ b) (pos 1000))

abbrev pub is_zero : ℤ → Bool
is_zero (pos n) = n == 0
is_zero (negsuc n) = false

-- the first value over the second, in thousandths; there is none by 0
unfoldable pub ratio : ℤ → ℤ → Option ℤ
ratio a b = if is_zero b then None else value_of (floor_quotient (a *ℤ pos 1000) b)

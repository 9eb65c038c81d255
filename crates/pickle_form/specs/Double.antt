-- The double nearest to a number of thousandths: IEEE 754 binary64, ties to even.
use Rattle.std.specs.Prelude.{◌≡◌, ◌≢◌, ℕ, ℤ, suc, pos, negsuc, neg_ℤ, ◌+◌, ◌-◌, ◌*◌, ◌/◌, ◌%◌, ◌^◌, ◌<◌, ◌≤◌, ◌==◌, ◌-ℤ◌, ◌*ℤ◌, Bool, nat_lt, nat_le, unsigned_abs, if◌then◌else◌}
use Rattle.std.specs.List.{find, range_with_len}
use Rattle.std.specs.Option.{unwrap_or}

-- ---- doubles

-- the eleven bits of the exponent, and the 52 of the fraction
abbrev pub exponent_of : ℕ → ℕ
exponent_of bits = bits / 2 ^ 52 % 2 ^ 11

abbrev pub fraction_of : ℕ → ℕ
fraction_of bits = bits % 2 ^ 52

abbrev pub is_negative : ℕ → Bool
is_negative bits = nat_le (2 ^ 63) bits

-- The absolute value, counted in the least double above 0, which is 1 / 2 ^ 1074.
unfoldable pub magnitude : ℕ → ℕ
magnitude bits =
    if exponent_of bits == 0 then fraction_of bits
    else (2 ^ 52 + fraction_of bits) * 2 ^ (exponent_of bits - 1)

unfoldable pub units_of_one : ℕ
units_of_one = 2 ^ 1074

-- the value, counted in the same
unfoldable pub units : ℕ → ℤ
units bits = if is_negative bits then neg_ℤ (pos (magnitude bits)) else pos (magnitude bits)

-- 64 bits that are a number: neither an infinity nor not-a-number
pub record IsDouble (bits : ℕ) : Type 0 where
  pub wide : bits < 2 ^ 64
  pub finite : exponent_of bits < 2047

-- how far a double is from so many thousandths: in thousandths of the least double above 0
unfoldable pub distance : ℤ → ℕ → ℕ
distance thousandths bits = unsigned_abs ((pos 1000 *ℤ units bits) -ℤ (thousandths *ℤ pos units_of_one))

-- No double is nearer. Where one of another value is as near, the last bit of the fraction is 0; and 0 has no sign.
pub record IsNearest (thousandths : ℤ) (bits : ℕ) : Type 0 where
  pub is : IsDouble bits
  pub nearest : (other : ℕ) → IsDouble other → distance thousandths bits ≤ distance thousandths other
  pub even : (other : ℕ) → IsDouble other → distance thousandths other ≡ distance thousandths bits → units other ≢ units bits → fraction_of bits % 2 ≡ 0
  pub unsigned : thousandths ≡ pos 0 → bits ≡ 0

-- ---- which double it is

-- the whole number nearest to a quotient, ties to even
unfoldable pub half_even : ℕ → ℕ → ℕ
half_even n d =
    if nat_lt (2 * (n % d)) d then n / d
    else (if nat_lt d (2 * (n % d)) then n / d + 1 else n / d + n / d % 2)

-- what that is: an even number where two are as near
pub record IsHalfEven (n d m : ℕ) : Type 0 where
  pub low : 2 * (m * d) ≤ 2 * n + d
  pub high : 2 * n ≤ 2 * (m * d) + d
  pub low_tie : 2 * (m * d) ≡ 2 * n + d → m % 2 ≡ 0
  pub high_tie : 2 * n ≡ 2 * (m * d) + d → m % 2 ≡ 0

-- The last place of a double of 53 bits counts 2 ^ k of the least double above 0: the least k with which 53 bits hold it.
abbrev pub holds_at : ℕ → ℕ → Bool
holds_at thousandths k = nat_lt (thousandths * units_of_one) (2 ^ 53 * (1000 * 2 ^ k))

unfoldable pub last_place : ℕ → ℕ
last_place thousandths = unwrap_or (find (holds_at thousandths) (range_with_len 0 2046)) 0

-- the bits without a sign: a significand of 2 ^ 53 goes over into the exponent
unfoldable pub magnitude_bits : ℕ → ℕ
magnitude_bits thousandths =
    last_place thousandths * 2 ^ 52 + half_even (thousandths * units_of_one) (1000 * 2 ^ last_place thousandths)

-- the bits: a sign, and those of the absolute value
unfoldable pub double_bits : ℤ → ℕ
double_bits (pos n) = magnitude_bits n
double_bits (negsuc n) = 2 ^ 63 + magnitude_bits (suc n)

-- ---- the law

-- of values of carbon, which are at most 10 ^ 30 thousandths
abbrev pub DoubleIsNearest : Type 0
DoubleIsNearest = (thousandths : ℤ) → unsigned_abs thousandths ≤ 10 ^ 30 → IsNearest thousandths (double_bits thousandths)

-- What each reader answers: the decimal in whole parts, rounded down, or why there is none.
use Rattle.std.specs.Prelude.{ℕ, ◌+◌, ◌-◌, ◌*◌, ◌/◌, ◌%◌, ◌^◌, ◌==◌, min, Bool, ◌&&◌, ◌||◌, nat_lt, List, ◌++◌, length, Option, Some, None, Result, Ok, Err, if◌then◌else◌, ℤ, pos, neg_ℤ, nat_abs}
use Rattle.std.specs.Str.Parse.{digits_value, starts_with_minus, without_leading_sign}
use Rattle.fixed_num.specs.declared.NumFault.{NumFault}
use Rattle.fixed_num.specs.declared.NumFault.TheVariants.{NotNumber, NotFinite, OutOfRange}
use Rattle.fixed_num.specs.declared.reached.Reached.{Reached}
use Rattle.fixed_num.specs.Decimal.{whole_of, fraction_of, is_mantissa, is_exponent, is_number, is_not_finite, is_within_one, numerator_of, denominator_of, scaled, fits, fits_i64}

-- why a text that is no decimal has no value
abbrev pub fault_of : List ℕ → NumFault
fault_of text = if is_not_finite text then NotFinite else NotNumber

-- a number of those that fit, or the fault
abbrev pub fitting : (ℤ → Bool) → ℤ → Result ℤ NumFault
fitting fit z = if fit z then Ok z else Err OutOfRange

-- the decimal of a text in parts of one `factor`th, rounded down, where it is one of those that fit
unfoldable pub read_as : (ℤ → Bool) → ℕ → List ℕ → Result ℤ NumFault
read_as fit factor text = if is_number text then fitting fit (scaled factor text) else Err (fault_of text)

-- in thousandths as a value, and in billionths as a number of 64 bits with a sign
abbrev pub milli_result : List ℕ → Result ℤ NumFault
milli_result text = read_as fits 1000 text

abbrev pub nano_result : List ℕ → Result ℤ NumFault
nano_result text = read_as fits_i64 1000000000 text

-- in millionths, of a decimal from 0 to 1
unfoldable pub millionths_result : List ℕ → Result ℕ NumFault
millionths_result text = if is_number text then (if is_within_one text then Ok (nat_abs (scaled 1000000 text)) else Err OutOfRange) else Err (fault_of text)

-- ---- the one reading under these

-- the whole number below the fraction n / d, or the greatest of 128 bits with a sign where it is above, and whether the fraction is whole
abbrev pub reached_by : ℕ → ℕ → Reached
reached_by n d = record { whole = min (n / d) (2 ^ 127 - 1); exact = n % d == 0 }

-- the same of the number before a point and of the number behind it, which has so many digits, in parts of one `factor`th
abbrev pub reached_parts : ℕ → ℕ → ℕ → ℕ → Reached
reached_parts whole fraction digits factor =
    record { whole = whole * factor + fraction * factor / 10 ^ digits; exact = fraction * factor % 10 ^ digits == 0 }

-- how many parts of one `factor`th the decimal of a text reaches, its sign left out
unfoldable pub reached_in : ℕ → List ℕ → Option Reached
reached_in factor text = if is_number text then Some (reached_by (numerator_of text * factor) (denominator_of text)) else None

-- the same of a mantissa whose point moves up and down
unfoldable pub moved : ℕ → ℕ → List ℕ → Option Reached
moved up down mantissa =
    if is_mantissa mantissa
    then Some (reached_by (digits_value 10 (whole_of mantissa ++ fraction_of mantissa) * 10 ^ up) (10 ^ (length (fraction_of mantissa) + down)))
    else None

-- how many places an exponent moves the point up and down
unfoldable pub moves_of : List ℕ → Option (ℕ × ℕ)
moves_of exponent =
    if is_exponent exponent
    then Some (if starts_with_minus exponent then (0, digits_value 10 (without_leading_sign exponent)) else (digits_value 10 (without_leading_sign exponent), 0))
    else None

-- the number below what is reached
abbrev pub rounded_down : Bool → Reached → ℤ
rounded_down negative reached = if negative then neg_ℤ (pos (reached.whole + (if reached.exact then 0 else 1))) else pos reached.whole

-- whether what is reached lies from 0 to `most`, both included
abbrev pub is_reached_within : ℕ → Bool → Reached → Bool
is_reached_within most negative reached =
    if negative then reached.whole == 0 && reached.exact else nat_lt reached.whole most || (reached.whole == most && reached.exact)

-- The decimal that a text writes, exactly, as a whole number of thousandths, billionths or millionths.
use Rattle.std.specs.Prelude.{ℕ, ◌+◌, ◌-◌, ◌*◌, ◌/◌, ◌^◌, ◌==◌, Bool, ◌&&◌, ◌||◌, not, nat_le, nat_lt, List, [], ◌∷◌, ◌++◌, length, Option, Some, None, if◌then◌else◌, codes, ℤ, pos, negsuc, neg_ℤ, unsigned_abs}
use Rattle.std.specs.List.{before_first, after_first, list_all, list_any}
use Rattle.std.specs.Char.{is_ascii_digit}
use Rattle.std.specs.Str.{bytes_eq, str_to_ascii_lowercase}
use Rattle.std.specs.Str.Parse.{digits_value, starts_with_minus, without_leading_sign}

-- `number = [sign] digits-and-point [exponent]`

abbrev pub is_point : ℕ → Bool
is_point b = b == 46

-- the letter before an exponent, `e` or `E`
abbrev pub is_exponent_mark : ℕ → Bool
is_exponent_mark b = b == 101 || b == 69

-- the part before the exponent, without its sign
abbrev pub mantissa_of : List ℕ → List ℕ
mantissa_of text = before_first is_exponent_mark (without_leading_sign text)

-- whether a text has an exponent, and what stands behind its letter
abbrev pub has_exponent : List ℕ → Bool
has_exponent text = list_any is_exponent_mark (without_leading_sign text)

abbrev pub exponent_of : List ℕ → List ℕ
exponent_of text = after_first is_exponent_mark (without_leading_sign text)

-- the digits before the point, and those behind it
abbrev pub whole_of : List ℕ → List ℕ
whole_of mantissa = before_first is_point mantissa

abbrev pub fraction_of : List ℕ → List ℕ
fraction_of mantissa = after_first is_point mantissa

-- digits, digits and a point, a point and digits, or digits, a point and digits: at least one digit
abbrev pub is_mantissa : List ℕ → Bool
is_mantissa mantissa = list_all is_ascii_digit (whole_of mantissa) && (list_all is_ascii_digit (fraction_of mantissa) && nat_lt 0 (length (whole_of mantissa ++ fraction_of mantissa)))

-- at least one digit and at most `most`, and nothing else
abbrev pub is_numeral_up_to : ℕ → List ℕ → Bool
is_numeral_up_to most text = nat_lt 0 (length text) && (nat_le (length text) most && list_all is_ascii_digit text)

-- an optional sign and one to three digits
abbrev pub is_exponent : List ℕ → Bool
is_exponent text = is_numeral_up_to 3 (without_leading_sign text)

-- a text of the grammar
abbrev pub is_number : List ℕ → Bool
is_number text = is_mantissa (mantissa_of text) && (not (has_exponent text) || is_exponent (exponent_of text))

-- how many places the exponent moves the point to the right, and to the left
abbrev pub places_up : List ℕ → ℕ
places_up text = if has_exponent text && not (starts_with_minus (exponent_of text)) then digits_value 10 (without_leading_sign (exponent_of text)) else 0

abbrev pub places_down : List ℕ → ℕ
places_down text = if has_exponent text && starts_with_minus (exponent_of text) then digits_value 10 (without_leading_sign (exponent_of text)) else 0

-- the decimal of a number's text without its sign, as a fraction of whole numbers
abbrev pub numerator_of : List ℕ → ℕ
numerator_of text = digits_value 10 (whole_of (mantissa_of text) ++ fraction_of (mantissa_of text)) * 10 ^ places_up text

abbrev pub denominator_of : List ℕ → ℕ
denominator_of text = 10 ^ (length (fraction_of (mantissa_of text)) + places_down text)

-- the fraction n / d, with a minus where it is negative, rounded down: towards the lesser number
abbrev pub floor_of : Bool → ℕ → ℕ → ℤ
floor_of negative n d = if negative then neg_ℤ (pos ((n + (d - 1)) / d)) else pos (n / d)

-- the decimal of a number's text, times a factor, rounded down
abbrev pub scaled : ℕ → List ℕ → ℤ
scaled factor text = floor_of (starts_with_minus text) (numerator_of text * factor) (denominator_of text)

-- a decimal from 0 to 1, both included
abbrev pub is_within_one : List ℕ → Bool
is_within_one text = (not (starts_with_minus text) || numerator_of text == 0) && nat_le (numerator_of text) (denominator_of text)

-- the words of infinity and of not-a-number, in any case and with an optional sign
abbrev pub is_not_finite : List ℕ → Bool
is_not_finite text = list_any (bytes_eq (str_to_ascii_lowercase (without_leading_sign text))) (codes "nan" ∷ codes "inf" ∷ codes "infinity" ∷ [])

-- a number of 64 bits with a sign
abbrev pub fits_i64 : ℤ → Bool
fits_i64 (pos n) = nat_lt n (2 ^ 63)
fits_i64 (negsuc n) = nat_lt n (2 ^ 63)

-- a value: a number of thousandths that is at least -10^30 and at most 10^30
abbrev pub fits : ℤ → Bool
fits number = nat_le (unsigned_abs number) (10 ^ 30)

-- the thousandths of a text, where it is a number and they fit
unfoldable pub milli : List ℕ → Option ℤ
milli text = if is_number text && fits (scaled 1000 text) then Some (scaled 1000 text) else None

-- the number n, with a minus where it is negative
abbrev pub with_sign : Bool → ℕ → ℤ
with_sign negative n = if negative then neg_ℤ (pos n) else pos n

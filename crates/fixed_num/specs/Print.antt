-- The text of a value: `-` where it is negative, the whole part, a point, and one to three decimals without trailing zeros past the first.
use Rattle.std.specs.Prelude.{ℕ, suc, ◌+◌, ◌-◌, ◌/◌, ◌%◌, ◌==◌, List, [], ◌∷◌, ◌++◌, map, length, take, ℤ, pos, negsuc, decimal}
use Rattle.std.specs.List.{suffix_len}

-- the byte of a digit
abbrev pub digit_byte : ℕ → ℕ
digit_byte digit = 48 + digit

-- digits without the zeros at their end
abbrev pub without_last_zeros : List ℕ → List ℕ
without_last_zeros digits = take (length digits - suffix_len (λ digit. digit == 0) digits) digits

-- the decimals of a number of thousandths below a whole: the tenths, and what stands after them without the zeros at its end
unfoldable pub decimals_text : ℕ → List ℕ
decimals_text n = map digit_byte (n / 100 ∷ without_last_zeros (n / 10 % 10 ∷ n % 10 ∷ []))

-- the text of a number of thousandths that is not negative
unfoldable pub unsigned_milli_text : ℕ → List ℕ
unsigned_milli_text n = decimal (n / 1000) ++ 46 ∷ decimals_text (n % 1000)

unfoldable pub milli_text : ℤ → List ℕ
milli_text (pos n) = unsigned_milli_text n
milli_text (negsuc n) = 45 ∷ unsigned_milli_text (suc n)

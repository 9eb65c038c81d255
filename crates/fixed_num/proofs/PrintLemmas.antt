-- The text that a value prints, and that it reads back.
use Rattle.std.proofs.Common.{◌≡◌, ◌≢◌, ℕ, suc, ◌+◌, ◌-◌, ◌*◌, ◌/◌, ◌%◌, ◌^◌, ◌<◌, ◌≤◌, true, false, List, [], ◌∷◌, ◌++◌, length, Some, ℤ, pos, negsuc, decimal, refl, ap, sym, ◌∙◌, arith, ◌⊎◌, inl, inr, subst, take_at, drop_at, drop, unsigned_abs, ◌<ℤ◌, ◌≤ℤ◌}
use Rattle.std.proofs.lemmas.Bool.{cases_eq, ne_eqb, eq-eqb, le-leb}
use Rattle.std.proofs.lemmas.Bool.Decides.{nat_tests}
use Rattle.std.proofs.lemmas.Fmt.{decimal_is_IsNumeral_wide, length-decimal-le_wide}
use Rattle.std.proofs.lemmas.Int.{ints}
use Rattle.std.proofs.lemmas.List.{drop-drop}
use Rattle.std.specs.List.{list_all, list_any, position_or_len}
use Rattle.std.specs.Char.{is_ascii_digit, digit_value}
use Rattle.std.specs.Str.Parse.{digits_value, starts_with_minus}
use Rattle.fixed_num.specs.Decimal.{is_point, whole_of, fraction_of, milli, fits, with_sign}
use Rattle.fixed_num.specs.Milli.{IsMilli}
use Rattle.fixed_num.specs.Print.{decimals_text, unsigned_milli_text, milli_text}
use Rattle.fixed_num.proofs.DigitLemmas.{numerals}
use Rattle.fixed_num.proofs.GrammarLemmas.{IsPointed, thousandths_of, digits_none, position_or_len_behind, sign_none, milli_pointed}

-- ---- one to three decimals

pub three_decimals : (n : ℕ) → n % 10 ≢ 0 → decimals_text n ≡ (48 + n / 100) ∷ (48 + n / 10 % 10) ∷ (48 + n % 10) ∷ []
unfolding decimals_text
three_decimals n last = rw (ne_eqb (n % 10) 0 last) refl

pub two_decimals : (n : ℕ) → n % 10 ≡ 0 → n / 10 % 10 ≢ 0 → decimals_text n ≡ (48 + n / 100) ∷ (48 + n / 10 % 10) ∷ []
unfolding decimals_text
two_decimals n last hundredths = rw (eq-eqb (n % 10) 0 last, ne_eqb (n / 10 % 10) 0 hundredths) refl

pub one_decimal : (n : ℕ) → n % 10 ≡ 0 → n / 10 % 10 ≡ 0 → decimals_text n ≡ (48 + n / 100) ∷ []
unfolding decimals_text
one_decimal n last hundredths = rw (eq-eqb (n % 10) 0 last, eq-eqb (n / 10 % 10) 0 hundredths) refl

-- what one to three digits write below a whole
pub record IsDecimals (ds : List ℕ) (n : ℕ) : Type 0 where
  pub digits : list_all is_ascii_digit ds ≡ true
  pub short : length ds ≤ 3
  pub value : digits_value 10 ds * 10 ^ (3 - length ds) ≡ n

digit_byte : (d : ℕ) → d < 10 → (is_ascii_digit (48 + d) ≡ true) × (digit_value (48 + d) ≡ d)
digit_byte d h = (grind (arith, nat_tests), grind (arith, nat_tests))

three : (a b c : ℕ) → a < 10 → b < 10 → c < 10 → IsDecimals ((48 + a) ∷ (48 + b) ∷ (48 + c) ∷ []) (a * 100 + b * 10 + c)
three a b c p q r = record {
  digits = rw ((digit_byte a p).0, (digit_byte b q).0, (digit_byte c r).0) refl;
  short = omega arith;
  value = rw ((digit_byte a p).1, (digit_byte b q).1, (digit_byte c r).1) (omega arith);
}

two : (a b : ℕ) → a < 10 → b < 10 → IsDecimals ((48 + a) ∷ (48 + b) ∷ []) (a * 100 + b * 10)
two a b p q = record {
  digits = rw ((digit_byte a p).0, (digit_byte b q).0) refl;
  short = omega arith;
  value = rw ((digit_byte a p).1, (digit_byte b q).1) (omega arith);
}

one : (a : ℕ) → a < 10 → IsDecimals ((48 + a) ∷ []) (a * 100)
one a p = record {
  digits = rw ((digit_byte a p).0) refl;
  short = omega arith;
  value = rw ((digit_byte a p).1) (omega arith);
}

pub decimals_are : (n : ℕ) → n < 1000 → IsDecimals (decimals_text n) n
decimals_are n h = by_last (cases_eq (n % 10) 0)
  where
    by_hundredths : n % 10 ≡ 0 → (n / 10 % 10 ≡ 0) ⊎ (n / 10 % 10 ≢ 0) → IsDecimals (decimals_text n) n
    by_hundredths last (inl none) =
        let all : n / 100 * 100 ≡ n = omega arith in
        rw (one_decimal n last none) (subst (IsDecimals ((48 + n / 100) ∷ [])) all (one (n / 100) (omega arith)))
    by_hundredths last (inr some) =
        let all : n / 100 * 100 + n / 10 % 10 * 10 ≡ n = omega arith in
        rw (two_decimals n last some) (subst (IsDecimals ((48 + n / 100) ∷ (48 + n / 10 % 10) ∷ [])) all (two (n / 100) (n / 10 % 10) (omega arith) (omega arith)))

    by_last : (n % 10 ≡ 0) ⊎ (n % 10 ≢ 0) → IsDecimals (decimals_text n) n
    by_last (inl none) = by_hundredths none (cases_eq (n / 10 % 10) 0)
    by_last (inr some) =
        let all : n / 100 * 100 + n / 10 % 10 * 10 + n % 10 ≡ n = omega arith in
        rw (three_decimals n some) (subst (IsDecimals ((48 + n / 100) ∷ (48 + n / 10 % 10) ∷ (48 + n % 10) ∷ [])) all (three (n / 100) (n / 10 % 10) (n % 10) (omega arith) (omega arith) (omega arith)))

pub decimals_short : (n : ℕ) → n < 1000 → length (decimals_text n) ≤ 3
decimals_short n h = (decimals_are n h).short

-- the whole part of a value has at most 28 digits
pub whole_short : (n : ℕ) → n ≤ 10 ^ 30 → length (decimal (n / 1000)) ≤ 28
whole_short n h = length-decimal-le_wide 28 (n / 1000) (omega arith) (omega arith) (omega arith)

-- ---- the sign

pub milli_text_negative : (v : ℤ) → v <ℤ pos 0 → milli_text v ≡ 45 ∷ unsigned_milli_text (unsigned_abs v)
unfolding milli_text
milli_text_negative (pos n) h = absurd (omega (arith, ints))
milli_text_negative (negsuc n) h = refl

pub milli_text_positive : (v : ℤ) → pos 0 ≤ℤ v → milli_text v ≡ unsigned_milli_text (unsigned_abs v)
unfolding milli_text
milli_text_positive (pos n) h = refl
milli_text_positive (negsuc n) h = absurd (omega (arith, ints))

-- ---- what is printed is read back

no_points : (ds : List ℕ) → list_all is_ascii_digit ds ≡ true → list_any is_point ds ≡ false
no_points ds digits = digits_none is_point (λ b h. grind (arith, nat_tests)) ds digits

printed_is_pointed : (n : ℕ) → n ≤ 10 ^ 30 → IsPointed (unsigned_milli_text n) × (thousandths_of (unsigned_milli_text n) ≡ n)
unfolding unsigned_milli_text
printed_is_pointed n h =
    let numeral = decimal_is_IsNumeral_wide (n / 1000) (omega arith) in
    let digits : list_all is_ascii_digit (decimal (n / 1000)) ≡ true = numerals.from (decimal (n / 1000)) numeral.0.1 in
    let number : digits_value 10 (decimal (n / 1000)) ≡ n / 1000 = numerals.same (decimal (n / 1000)) numeral.0.1 ∙ numeral.1 in
    let point : position_or_len is_point (decimal (n / 1000) ++ 46 ∷ decimals_text (n % 1000)) ≡ length (decimal (n / 1000)) =
    position_or_len_behind is_point (decimal (n / 1000)) 46 (decimals_text (n % 1000)) (no_points (decimal (n / 1000)) digits) refl in
    let whole : whole_of (unsigned_milli_text n) ≡ decimal (n / 1000) = rw point (take_at (decimal (n / 1000)) (46 ∷ decimals_text (n % 1000)) _ refl) in
    let fraction : fraction_of (unsigned_milli_text n) ≡ decimals_text (n % 1000) =
    rw point (sym (drop-drop 1 (length (decimal (n / 1000))) _) ∙ ap (drop 1) (drop_at (decimal (n / 1000)) (46 ∷ decimals_text (n % 1000)) _ refl)) in
    let decimals : IsDecimals (decimals_text (n % 1000)) (n % 1000) = decimals_are (n % 1000) (omega arith) in (
      record { whole = rw whole digits; fraction = rw fraction decimals.digits; some = rw whole numeral.0.0; short = rw fraction decimals.short },
      rw (whole, fraction, number, decimals.value) (omega arith),
    )

pub printed_is_read : (v : ℤ) → IsMilli v → milli (milli_text v) ≡ Some v
unfolding milli_text
printed_is_read (pos n) few =
    let printed = printed_is_pointed n (omega (arith, few)) in
    let sign = sign_none (unsigned_milli_text n) printed.0 in
    let value : with_sign (starts_with_minus (unsigned_milli_text n)) (thousandths_of (unsigned_milli_text n)) ≡ pos n = rw (sign.0, printed.1) refl in
    milli_pointed (unsigned_milli_text n) (unsigned_milli_text n) sign.1 printed.0 (ap fits value ∙ le-leb n (10 ^ 30) (omega (arith, few))) ∙ ap (λ z. Some z) value
printed_is_read (negsuc n) few =
    let printed = printed_is_pointed (suc n) (omega (arith, few)) in
    let value : with_sign true (thousandths_of (unsigned_milli_text (suc n))) ≡ negsuc n = rw printed.1 refl in
    milli_pointed (45 ∷ unsigned_milli_text (suc n)) (unsigned_milli_text (suc n)) refl printed.0 (ap fits value ∙ le-leb (suc n) (10 ^ 30) (omega (arith, few))) ∙ ap (λ z. Some z) value

-- two lists that are alike from a place on are alike from each later place on
pub drop_later : (xs ys : List ℕ) (m n : ℕ) → drop m xs ≡ drop m ys → m ≤ n → drop n xs ≡ drop n ys
drop_later xs ys m n e h =
    let split : m + (n - m) ≡ n = omega arith in
    ap (λ k. drop k xs) (sym split) ∙ (sym (drop-drop (n - m) m xs) ∙ (ap (drop (n - m)) e ∙ (drop-drop (n - m) m ys ∙ ap (λ k. drop k ys) split)))

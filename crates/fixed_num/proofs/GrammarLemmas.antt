-- Where the point stands in a text of digits, and that such a text is a number, with its value.
use Rattle.std.proofs.Common.{◌≡◌, ℕ, zero, suc, ◌+◌, ◌-◌, ◌*◌, ◌/◌, ◌^◌, ◌<◌, ◌≤◌, Bool, true, false, List, [], ◌∷◌, ◌++◌, length, get_or, Some, pos, neg_ℤ, refl, ap, sym, ◌∙◌, arith, ltb, eqb, cond, not, ◌||◌, ◌⊎◌, inl, inr, take_all, length-append, length-take, add-zero, mul-one}
use Rattle.std.proofs.Math.Nat.{one-le-pow}
use Rattle.std.proofs.lemmas.Bool.{cases_lt, lt-ltb, ltb-false, ne_eqb, and_parts, and_from, or_parts}
use Rattle.std.proofs.lemmas.Bool.Decides.{nat_tests}
use Rattle.std.proofs.lemmas.Nat.{div-mul-add}
use Rattle.std.proofs.lemmas.List.{drop_all, get_or-take}
use Rattle.std.proofs.lemmas.List.Sums.{split_at_first, passes_at_first}
use Rattle.std.proofs.lemmas.List.Folds.{list_any-append}
use Rattle.std.specs.List.{list_all, list_any, position_or_len, before_first, after_first}
use Rattle.std.specs.Char.{is_ascii_digit}
use Rattle.std.specs.Int.{IsInRange}
use Rattle.std.specs.Str.Parse.{digits_value, starts_with_minus, without_leading_sign}
use Rattle.fixed_num.specs.Decimal.{is_point, is_exponent_mark, mantissa_of, has_exponent, whole_of, fraction_of, is_number, milli, fits, floor_of, scaled, with_sign}
use Rattle.fixed_num.proofs.DigitLemmas.{digit_byte_at, digits_value-append}

-- ---- the first place that passes a test

ltb_more : (a b : ℕ) → ltb a b ≡ ltb (1 + a) (suc b)
ltb_more a b = grind (arith, nat_tests)

by_first : {X : Type 0} (p : X → Bool) (x : X) (xs : List X) (b : Bool) → list_any p xs ≡ ltb (position_or_len p xs) (length xs) → (b || list_any p xs) ≡ ltb (cond (not b) (1 + position_or_len p xs) 0) (suc (length xs))
by_first p x xs true e = sym (lt-ltb 0 (suc (length xs)) (omega arith))
by_first p x xs false e = e ∙ ltb_more (position_or_len p xs) (length xs)

-- a list has an element that passes just where its first place is within the list
pub list_any_is : {X : Type 0} (p : X → Bool) (xs : List X) → list_any p xs ≡ ltb (position_or_len p xs) (length xs)
list_any_is p [] = refl
list_any_is p (x ∷ xs) = by_first p x xs (p x) (list_any_is p xs)

pub before_first_none : {X : Type 0} (p : X → Bool) (xs : List X) → list_any p xs ≡ false → before_first p xs ≡ xs
before_first_none p xs e = take_all _ xs (ltb-false _ _ (sym (list_any_is p xs) ∙ e))

pub after_first_none : {X : Type 0} (p : X → Bool) (xs : List X) → list_any p xs ≡ false → after_first p xs ≡ []
after_first_none p xs e = drop_all _ xs (let past : length xs ≤ position_or_len p xs = ltb-false _ _ (sym (list_any_is p xs) ∙ e) in omega arith)

-- a list has no element that passes one test, where it has none before and behind the first that passes another
pub list_any_parts : (p q : ℕ → Bool) (xs : List ℕ) → ((x : ℕ) → p x ≡ true → q x ≡ false) → list_any q (before_first p xs) ≡ false → list_any q (after_first p xs) ≡ false → list_any q xs ≡ false
list_any_parts p q xs apart before behind = at_place (cases_lt (position_or_len p xs) (length xs))
  where
    at_place : (position_or_len p xs < length xs) ⊎ (length xs ≤ position_or_len p xs) → list_any q xs ≡ false
    at_place (inl h) =
        ap (list_any q) (split_at_first p xs 0 h)
        ∙ (list_any-append q (before_first p xs) (get_or xs (position_or_len p xs) 0 ∷ after_first p xs)
        ∙ rw (before, apart _ (passes_at_first p xs 0 h), behind) refl)
    at_place (inr h) = sym (ap (list_any q) (take_all _ xs h)) ∙ before

-- digits hold neither a point nor the letter of an exponent
digit_is_none : (b : ℕ) → is_ascii_digit b ≡ true → (is_point b ≡ false) × (is_exponent_mark b ≡ false)
digit_is_none b h = grind (arith, nat_tests)

pub digits_none : (p : ℕ → Bool) → ((b : ℕ) → is_ascii_digit b ≡ true → p b ≡ false) → (ds : List ℕ) → list_all is_ascii_digit ds ≡ true → list_any p ds ≡ false
digits_none p none [] h = refl
digits_none p none (d ∷ ds) h =
    let parts : (is_ascii_digit d ≡ true) × (list_all is_ascii_digit ds ≡ true) = and_parts _ _ h in
    rw (none d parts.0, digits_none p none ds parts.1) refl

-- digits before a list that begins with an element that passes
pub position_or_len_behind : (p : ℕ → Bool) (ds : List ℕ) (x : ℕ) (rest : List ℕ) → list_any p ds ≡ false → p x ≡ true → position_or_len p (ds ++ x ∷ rest) ≡ length ds
position_or_len_behind p [] x rest none here = rw here refl
position_or_len_behind p (d ∷ ds) x rest none here =
    let parts : (p d ≡ false) × (list_any p ds ≡ false) = or_parts _ _ none in
    rw (parts.0, position_or_len_behind p ds x rest parts.1 here) (omega arith)

-- ---- a text of digits with at most one point and no exponent

-- digits, at least one of them before the point
pub record IsPointed (digits : List ℕ) : Type 0 where
  pub whole : list_all is_ascii_digit (whole_of digits) ≡ true
  pub fraction : list_all is_ascii_digit (fraction_of digits) ≡ true
  pub some : 0 < length (whole_of digits)
  pub short : length (fraction_of digits) ≤ 3

-- the thousandths that such a text writes
abbrev pub thousandths_of : List ℕ → ℕ
thousandths_of digits = digits_value 10 (whole_of digits) * 1000 + digits_value 10 (fraction_of digits) * 10 ^ (3 - length (fraction_of digits))

pub no_exponent_in : (digits : List ℕ) → list_all is_ascii_digit (whole_of digits) ≡ true → list_all is_ascii_digit (fraction_of digits) ≡ true → list_any is_exponent_mark digits ≡ false
no_exponent_in digits whole fraction =
    list_any_parts is_point is_exponent_mark digits (λ x h. grind (arith, nat_tests))
    (digits_none is_exponent_mark (λ b h. (digit_is_none b h).1) (whole_of digits) whole)
    (digits_none is_exponent_mark (λ b h. (digit_is_none b h).1) (fraction_of digits) fraction)

no_exponent : (digits : List ℕ) → IsPointed digits → list_any is_exponent_mark digits ≡ false
no_exponent digits pointed = no_exponent_in digits pointed.whole pointed.fraction

pub mantissa_is : (text digits : List ℕ) → without_leading_sign text ≡ digits → IsPointed digits → mantissa_of text ≡ digits
mantissa_is text digits e pointed = ap (before_first is_exponent_mark) e ∙ before_first_none _ _ (no_exponent digits pointed)

pub exponent_none : (text digits : List ℕ) → without_leading_sign text ≡ digits → IsPointed digits → has_exponent text ≡ false
exponent_none text digits e pointed = ap (list_any is_exponent_mark) e ∙ no_exponent digits pointed

pub number_is_pointed : (text digits : List ℕ) → without_leading_sign text ≡ digits → IsPointed digits → is_number text ≡ true
number_is_pointed text digits e pointed =
    let mantissa : mantissa_of text ≡ digits = mantissa_is text digits e pointed in
    let plain : has_exponent text ≡ false = exponent_none text digits e pointed in
    let room : 0 < length (whole_of digits ++ fraction_of digits) = omega (arith, length-append (whole_of digits) (fraction_of digits), pointed.some) in
    rw (mantissa, plain) (and_from _ _ (and_from _ _ pointed.whole (and_from _ _ pointed.fraction (lt-ltb _ _ room))) refl)

-- a whole number of thousandths, out of at most three digits behind the point
places : (w f : ℕ) (k : ℕ) → k ≤ 3 → (w * 10 ^ k + f) * 1000 ≡ (w * 1000 + f * 10 ^ (3 - k)) * 10 ^ k
places w f zero h = omega arith
places w f (suc zero) h = omega arith
places w f (suc (suc zero)) h = omega arith
places w f (suc (suc (suc zero))) h = omega arith
places w f (suc (suc (suc (suc k)))) h = absurd (omega arith)

pub floor_exact : (negative : Bool) (q d : ℕ) → 0 < d → floor_of negative (q * d) d ≡ with_sign negative q
floor_exact false q d h = ap (λ (n : ℕ). pos n) (ap (λ n. n / d) (omega arith) ∙ div-mul-add q d 0 h)
floor_exact true q d h = ap (λ n. neg_ℤ (pos n)) (div-mul-add q d (d - 1) (omega arith))

pub scaled_pointed : (text digits : List ℕ) → without_leading_sign text ≡ digits → IsPointed digits → scaled 1000 text ≡ with_sign (starts_with_minus text) (thousandths_of digits)
scaled_pointed text digits e pointed =
    let mantissa : mantissa_of text ≡ digits = mantissa_is text digits e pointed in
    let plain : has_exponent text ≡ false = exponent_none text digits e pointed in
    let value : digits_value 10 (whole_of digits ++ fraction_of digits) * 10 ^ 0 * 1000 ≡ thousandths_of digits * 10 ^ (length (fraction_of digits) + 0) =
    rw (digits_value-append (whole_of digits) (fraction_of digits), mul-one, add-zero) (places _ _ (length (fraction_of digits)) pointed.short) in
    rw (mantissa, plain) (ap (λ n. floor_of (starts_with_minus text) n (10 ^ (length (fraction_of digits) + 0))) value ∙ floor_exact (starts_with_minus text) (thousandths_of digits) (10 ^ (length (fraction_of digits) + 0)) (one-le-pow (length (fraction_of digits) + 0) 10 (omega arith)))

-- ---- its sign and its value

-- such a text begins with a digit, and so with no sign
first_is_digit : (digits : List ℕ) → IsPointed digits → IsInRange 48 57 (get_or digits 0 0)
first_is_digit digits pointed =
    let within : 0 < position_or_len is_point digits = omega (arith, pointed.some, length-take (position_or_len is_point digits) digits) in
    let same : get_or (whole_of digits) 0 0 ≡ get_or digits 0 0 = get_or-take (position_or_len is_point digits) digits 0 0 within in
    let first : IsInRange 48 57 (get_or (whole_of digits) 0 0) = digit_byte_at (whole_of digits) 0 pointed.whole pointed.some in
    rw same at first

pub sign_none : (digits : List ℕ) → IsPointed digits → (starts_with_minus digits ≡ false) × (without_leading_sign digits ≡ digits)
sign_none digits pointed =
    let first : IsInRange 48 57 (get_or digits 0 0) = first_is_digit digits pointed in
    let minus : starts_with_minus digits ≡ false = ne_eqb _ _ (λ e. omega arith) in
    let plus : eqb (get_or digits 0 0) 43 ≡ false = ne_eqb _ _ (λ e. omega arith) in
    (minus, rw (minus, plus) refl)

pub milli_pointed : (text digits : List ℕ) → without_leading_sign text ≡ digits → IsPointed digits → fits (with_sign (starts_with_minus text) (thousandths_of digits)) ≡ true → milli text ≡ Some (with_sign (starts_with_minus text) (thousandths_of digits))
unfolding milli
milli_pointed text digits e pointed fits =
    rw (number_is_pointed text digits e pointed, scaled_pointed text digits e pointed, fits) refl

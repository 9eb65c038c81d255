-- What a text with an exponent or without one reaches, and how that is rounded down.
use Rattle.std.proofs.Common.{◌≡◌, ◌≢◌, ℕ, zero, suc, ◌+◌, ◌-◌, ◌*◌, ◌/◌, ◌%◌, ◌^◌, ◌<◌, ◌≤◌, min, Bool, true, false, List, ◌++◌, length, take, drop, unwrap_or, Some, None, Ok, Err, nat_abs, leb, position, ℤ, pos, negsuc, neg_ℤ, refl, ap, sym, ◌∙◌, arith, ltb, ◌==◌, cond, not, ◌&&◌, ◌||◌, ◌⊎◌, inl, inr, mul-one, length-append}
use Rattle.std.proofs.Math.Nat.{one-le-pow, mul_assoc, le-mul_of_pos_right, mul-le-mul_right, div-le_of_le-mul, div-le_self, zero-mul}
use Rattle.std.proofs.Math.Bool.{and-true, and-false}
use Rattle.std.proofs.lemmas.Nat.{pow-add, div-mul-add, mod_below, div-add-mod'}
use Rattle.std.proofs.lemmas.Bool.{cases_lt, cases_eq, cases_order, cases_Bool, eq-eqb, ne_eqb, eqb-true, leb-true, lt-ltb, le-ltb, le-leb, lt-leb, and_parts}
use Rattle.std.specs.Result.{result_ok}
use Rattle.std.specs.List.{list_all, list_any, position_or_len, before_first, after_first}
use Rattle.std.specs.Str.Parse.{digits_value, starts_with_minus, without_leading_sign}
use Rattle.fixed_num.specs.declared.NumFault.{NumFault}
use Rattle.fixed_num.specs.declared.NumFault.TheVariants.{OutOfRange}
use Rattle.fixed_num.specs.declared.reached.Reached.{Reached}
use Rattle.fixed_num.specs.Decimal.{is_exponent_mark, mantissa_of, has_exponent, exponent_of, whole_of, fraction_of, is_exponent, is_number, places_up, places_down, numerator_of, denominator_of, floor_of, scaled, is_within_one, milli, fits, with_sign}
use Rattle.fixed_num.specs.Read.{fault_of, fitting, read_as, milli_result, millionths_result, reached_in, reached_by, reached_parts, moved, moves_of, rounded_down, is_reached_within}
use Rattle.fixed_num.proofs.FitLemmas.{IsWithinValues}
use Rattle.fixed_num.proofs.GrammarLemmas.{list_any_is, before_first_none, no_exponent_in}
use Rattle.fixed_num.proofs.DigitLemmas.{number_of_digits_is}
use Rattle.fixed_num.proofs.ReachLemmas.{parts_quotient, product_below}
use Rattle.fixed_num.specs.Whole.{number_of_digits}
use Rattle.std.specs.Char.{is_ascii_digit}

-- ---- the letter of an exponent

position_cases : (p : ℕ → Bool) (xs : List ℕ) → position p xs ≡ cond (list_any p xs) (Some (position_or_len p xs)) None
position_cases p xs = ap (λ b. cond b (Some (position_or_len p xs)) None) (sym (list_any_is p xs))

position_none : (p : ℕ → Bool) (xs : List ℕ) → position p xs ≡ None → list_any p xs ≡ false
position_none p xs e = by_answer (cases_Bool (list_any p xs))
  where
    by_answer : (list_any p xs ≡ true) ⊎ (list_any p xs ≡ false) → list_any p xs ≡ false
    by_answer (inl found) =
        let some : cond (list_any p xs) (Some (position_or_len p xs)) None ≡ Some (position_or_len p xs) = rw found refl in
        let both : Some (position_or_len p xs) ≡ None = sym some ∙ (sym (position_cases p xs) ∙ e) in
        cc
    by_answer (inr none) = none

position_some : (p : ℕ → Bool) (xs : List ℕ) (k : ℕ) → position p xs ≡ Some k → (list_any p xs ≡ true) × (position_or_len p xs ≡ k)
position_some p xs k e = by_answer (cases_Bool (list_any p xs))
  where
    by_answer : (list_any p xs ≡ true) ⊎ (list_any p xs ≡ false) → (list_any p xs ≡ true) × (position_or_len p xs ≡ k)
    by_answer (inl found) =
        let some : cond (list_any p xs) (Some (position_or_len p xs)) None ≡ Some (position_or_len p xs) = rw found refl in
        let both : Some (position_or_len p xs) ≡ Some k = sym some ∙ (sym (position_cases p xs) ∙ e) in
        (found, (cc))
    by_answer (inr none) =
        let nothing : cond (list_any p xs) (Some (position_or_len p xs)) None ≡ None = rw none refl in
        let both : None ≡ Some k = sym nothing ∙ (sym (position_cases p xs) ∙ e) in
        (cc)

-- ---- what a text reaches

pub reached_plain : (text digits : List ℕ) (places : ℕ) → digits ≡ without_leading_sign text → position is_exponent_mark digits ≡ None → moved places 0 digits ≡ reached_in (10 ^ places) text
unfolding moved reached_in
reached_plain text digits places e none =
    let plain : has_exponent text ≡ false = ap (list_any is_exponent_mark) (sym e) ∙ position_none is_exponent_mark digits none in
    let mantissa : mantissa_of text ≡ digits = before_first_none is_exponent_mark (without_leading_sign text) plain ∙ sym e in
    rw (mantissa, plain, and-true, mul-one) refl

-- few digits before and behind a point, by the numbers that they write
pub no_mark : (mantissa whole fraction : List ℕ) → whole ≡ whole_of mantissa → fraction ≡ fraction_of mantissa → list_all is_ascii_digit whole ≡ true → list_all is_ascii_digit fraction ≡ true → position is_exponent_mark mantissa ≡ None
no_mark mantissa whole fraction e f h k =
    let none : list_any is_exponent_mark mantissa ≡ false = no_exponent_in mantissa (ap (list_all is_ascii_digit) (sym e) ∙ h) (ap (list_all is_ascii_digit) (sym f) ∙ k) in
    position_cases is_exponent_mark mantissa ∙ rw none refl

reached_few : (whole fraction : List ℕ) (factor : ℕ) → digits_value 10 whole * factor + digits_value 10 fraction * factor / 10 ^ length fraction < 2 ^ 64
    → reached_by (digits_value 10 (whole ++ fraction) * factor) (10 ^ (length fraction + 0)) ≡ reached_parts (digits_value 10 whole) (digits_value 10 fraction) (length fraction) factor
reached_few whole fraction factor room =
    let quotient = parts_quotient whole fraction factor in
    let fits : min (digits_value 10 whole * factor + digits_value 10 fraction * factor / 10 ^ length fraction) (2 ^ 127 - 1) ≡ digits_value 10 whole * factor + digits_value 10 fraction * factor / 10 ^ length fraction = omega arith in
    rw (quotient.whole, quotient.rest, fits) refl

pub moved_few : (mantissa whole fraction : List ℕ) (places before behind : ℕ) → whole ≡ whole_of mantissa → fraction ≡ fraction_of mantissa → 0 < length whole
    → Some before ≡ number_of_digits whole → Some behind ≡ number_of_digits fraction → places ≤ 9 → before < 10 ^ (18 - places) → behind < 10 ^ (18 - places)
    → moved places 0 mantissa ≡ Some (reached_parts before behind (length fraction) (10 ^ places))
unfolding moved
moved_few mantissa whole fraction places before behind e f some b g few less small =
    let front = number_of_digits_is whole before b in
    let back = number_of_digits_is fraction behind g in
    let room : 0 < length (whole ++ fraction) = omega (arith, length-append whole fraction) in
    let part : behind * 10 ^ places / 10 ^ length fraction ≤ behind * 10 ^ places = div-le_self _ _ in
    let fits : before * 10 ^ places + behind * 10 ^ places / 10 ^ length fraction < 2 ^ 64 = omega (arith, product_below before places few less, product_below behind places few small, part) in
    rw (sym e, sym f, front.0, back.0, lt-ltb 0 (length (whole ++ fraction)) room)
    (ap (λ r. Some r) (reached_few whole fraction (10 ^ places) (rw (front.1, back.1) at fits) ∙ rw (front.1, back.1) refl))

moves_are : (exponent : List ℕ) (up down : ℕ) → moves_of exponent ≡ Some (up, down) → (is_exponent exponent ≡ true) × (cond (starts_with_minus exponent) 0 (digits_value 10 (without_leading_sign exponent)) ≡ up) × (cond (starts_with_minus exponent) (digits_value 10 (without_leading_sign exponent)) 0 ≡ down)
unfolding moves_of
moves_are exponent up down e = by_form (is_exponent exponent) (starts_with_minus exponent) (digits_value 10 (without_leading_sign exponent)) e
  where
    by_form : (form minus : Bool) (n : ℕ) → cond form (Some (cond {A = ℕ × ℕ} minus (0, n) (n, 0))) None ≡ Some (up, down) → (form ≡ true) × (cond minus 0 n ≡ up) × (cond minus n 0 ≡ down)
    by_form true true n h = (refl, ap (λ o. (unwrap_or {T = ℕ × ℕ} o (0, 0)).0) h, ap (λ o. (unwrap_or {T = ℕ × ℕ} o (0, 0)).1) h)
    by_form true false n h = (refl, ap (λ o. (unwrap_or {T = ℕ × ℕ} o (0, 0)).0) h, ap (λ o. (unwrap_or {T = ℕ × ℕ} o (0, 0)).1) h)
    by_form false minus n h = absurd (cc)

moves_none : (exponent : List ℕ) → moves_of exponent ≡ None → is_exponent exponent ≡ false
unfolding moves_of
moves_none exponent e = by_form (is_exponent exponent) (cond (starts_with_minus exponent) (0, digits_value 10 (without_leading_sign exponent)) (digits_value 10 (without_leading_sign exponent), 0)) e
  where
    by_form : (form : Bool) (moves : ℕ × ℕ) → cond form (Some moves) None ≡ None → form ≡ false
    by_form true moves h = absurd (cc)
    by_form false moves h = refl

-- the parts of a text whose exponent begins behind a letter
record IsLettered (text digits : List ℕ) (letter : ℕ) : Type 0 where
  has : has_exponent text ≡ true
  mantissa : mantissa_of text ≡ take letter digits
  exponent : exponent_of text ≡ drop (letter + 1) digits

lettered : (text digits : List ℕ) (letter : ℕ) → digits ≡ without_leading_sign text → position is_exponent_mark digits ≡ Some letter → IsLettered text digits letter
lettered text digits letter e some =
    let found = position_some is_exponent_mark digits letter some in
    record {
      has = ap (list_any is_exponent_mark) (sym e) ∙ found.0;
      mantissa = ap (before_first is_exponent_mark) (sym e) ∙ ap (λ n. take n digits) found.1;
      exponent = ap (after_first is_exponent_mark) (sym e) ∙ ap (λ n. drop (n + 1) digits) found.1;
    }

pub reached_not : (text digits : List ℕ) (factor letter : ℕ) → digits ≡ without_leading_sign text → position is_exponent_mark digits ≡ Some letter → moves_of (drop (letter + 1) digits) ≡ None → reached_in factor text ≡ None
unfolding reached_in
reached_not text digits factor letter e some none =
    let parts = lettered text digits letter e some in
    let other : is_exponent (exponent_of text) ≡ false = ap is_exponent parts.exponent ∙ moves_none _ none in
    rw (parts.has, other, and-false) refl

turned : (b : Bool) (n : ℕ) → cond (true && not b) n 0 ≡ cond b 0 n
turned true n = refl
turned false n = refl

pub reached_moved : (text digits : List ℕ) (places letter up down : ℕ) → digits ≡ without_leading_sign text → position is_exponent_mark digits ≡ Some letter → moves_of (drop (letter + 1) digits) ≡ Some (up, down) → moved (up + places) down (take letter digits) ≡ reached_in (10 ^ places) text
unfolding moved reached_in
reached_moved text digits places letter up down e some moves =
    let parts = lettered text digits letter e some in
    let move = moves_are (drop (letter + 1) digits) up down moves in
    let up_is : places_up text ≡ up = rw (parts.has, parts.exponent) (turned (starts_with_minus (drop (letter + 1) digits)) (digits_value 10 (without_leading_sign (drop (letter + 1) digits))) ∙ move.1) in
    let down_is : places_down text ≡ down = rw (parts.has, parts.exponent) move.2 in
    let form : is_exponent (exponent_of text) ≡ true = ap is_exponent parts.exponent ∙ move.0 in
    let mantissa : List ℕ = take letter digits in
    let power : digits_value 10 (whole_of (take letter digits) ++ fraction_of (take letter digits)) * 10 ^ (up + places) ≡ digits_value 10 (whole_of (take letter digits) ++ fraction_of (take letter digits)) * 10 ^ up * 10 ^ places =
    rw (pow-add 10 up places) (sym (mul_assoc _ (10 ^ up) (10 ^ places))) in
    rw (up_is, down_is, form, parts.mantissa, power, parts.has, and-true) refl

-- ---- rounding down

-- what a text reaches is by its fraction
reached_some : (factor : ℕ) (text : List ℕ) (r : Reached) → reached_in factor text ≡ Some r → (is_number text ≡ true) × (r ≡ reached_by (numerator_of text * factor) (denominator_of text))
unfolding reached_in
reached_some factor text r e = by_form (is_number text) (reached_by (numerator_of text * factor) (denominator_of text)) e
  where
    by_form : (form : Bool) (s : Reached) → cond form (Some s) None ≡ Some r → (form ≡ true) × (r ≡ s)
    by_form true s h = (refl, (cc))
    by_form false s h = absurd (cc)

reached_none : (factor : ℕ) (text : List ℕ) → reached_in factor text ≡ None → is_number text ≡ false
unfolding reached_in
reached_none factor text e = by_form (is_number text) (reached_by (numerator_of text * factor) (denominator_of text)) e
  where
    by_form : (form : Bool) (s : Reached) → cond form (Some s) None ≡ None → form ≡ false
    by_form true s h = absurd (cc)
    by_form false s h = refl

-- a quotient rounded up is one more where something is left
ceiling_is : (n d : ℕ) → 0 < d → (n + (d - 1)) / d ≡ n / d + cond (n % d == 0) 0 1
ceiling_is n d h = by_rest (cases_eq (n % d) 0)
  where
    parts : n / d * d + n % d ≡ n
    parts = div-add-mod' n d

    by_rest : (n % d ≡ 0) ⊎ (n % d ≢ 0) → (n + (d - 1)) / d ≡ n / d + cond (n % d == 0) 0 1
    by_rest (inl none) =
        let whole : n + (d - 1) ≡ n / d * d + (d - 1) = omega (arith, parts) in
        ap (λ k. k / d) whole ∙ (div-mul-add (n / d) d (d - 1) (omega arith) ∙ sym (rw (eq-eqb (n % d) 0 none) (omega arith)))
    by_rest (inr some) =
        let below : n % d < d = mod_below n d h in
        let more : n + (d - 1) ≡ (n / d + 1) * d + (n % d - 1) = omega (arith, parts) in
        ap (λ k. k / d) more ∙ (div-mul-add (n / d + 1) d (n % d - 1) (omega arith) ∙ sym (rw (ne_eqb (n % d) 0 some) refl))

-- no number past the values fits
too_great : (fit : ℤ → Bool) (negative : Bool) (n : ℕ) → IsWithinValues fit → 10 ^ 30 < n → fitting fit (with_sign negative n) ≡ Err OutOfRange
too_great fit true zero within h = absurd (omega arith)
too_great fit true (suc n) within h = rw (within (negsuc n) h) refl
too_great fit false n within h = rw (within (pos n) h) refl

too_great_rounded : (fit : ℤ → Bool) (negative : Bool) (n : ℕ) (exact : Bool) → IsWithinValues fit → 10 ^ 30 < n → fitting fit (rounded_down negative (record { whole = n; exact = exact })) ≡ Err OutOfRange
too_great_rounded fit true n exact within h = too_great fit true (n + cond exact 0 1) within (omega arith)
too_great_rounded fit false n exact within h = too_great fit false n within h

fitting_capped : (fit : ℤ → Bool) (negative : Bool) (q : ℕ) (exact : Bool) → IsWithinValues fit
    → fitting fit (rounded_down negative (record { whole = min q (2 ^ 127 - 1); exact = exact })) ≡ fitting fit (rounded_down negative (record { whole = q; exact = exact }))
fitting_capped fit negative q exact within = by_size (cases_lt q (2 ^ 127))
  where
    by_size : (q < 2 ^ 127) ⊎ (2 ^ 127 ≤ q) → fitting fit (rounded_down negative (record { whole = min q (2 ^ 127 - 1); exact = exact })) ≡ fitting fit (rounded_down negative (record { whole = q; exact = exact }))
    by_size (inl few) = let same : min q (2 ^ 127 - 1) ≡ q = omega arith in rw same refl
    by_size (inr many) = too_great_rounded fit negative (min q (2 ^ 127 - 1)) exact within (omega arith) ∙ sym (too_great_rounded fit negative q exact within (omega arith))

floor_is : (negative : Bool) (n d : ℕ) → 0 < d → floor_of negative n d ≡ rounded_down negative (record { whole = n / d; exact = n % d == 0 })
floor_is true n d h = ap (λ k. neg_ℤ (pos k)) (ceiling_is n d h)
floor_is false n d h = refl

denominator_positive : (text : List ℕ) → 0 < denominator_of text
denominator_positive text = one-le-pow (length (fraction_of (mantissa_of text)) + places_down text) 10 (omega arith)

pub read_none : (fit : ℤ → Bool) (factor : ℕ) (text : List ℕ) → reached_in factor text ≡ None → Err (fault_of text) ≡ read_as fit factor text
unfolding read_as
read_none fit factor text e = rw (reached_none factor text e) refl

pub read_some : (fit : ℤ → Bool) → IsWithinValues fit → (factor : ℕ) (text : List ℕ) (r : Reached) → reached_in factor text ≡ Some r → fitting fit (rounded_down (starts_with_minus text) r) ≡ read_as fit factor text
unfolding read_as
read_some fit within factor text r e =
    let some = reached_some factor text r e in
    rw (some.0, some.1)
    (fitting_capped fit (starts_with_minus text) (numerator_of text * factor / denominator_of text) (numerator_of text * factor % denominator_of text == 0) within
    ∙ ap (fitting fit) (sym (floor_is (starts_with_minus text) (numerator_of text * factor) (denominator_of text) (denominator_positive text))))

-- what is read is the value of the text
pub milli_result_value : (text : List ℕ) → result_ok (milli_result text) ≡ milli text
unfolding read_as milli
milli_result_value text = by_parts (is_number text) (fits (scaled 1000 text)) (scaled 1000 text) (fault_of text)
  where
    by_parts : (form fits : Bool) (z : ℤ) (fault : NumFault) → result_ok (cond form (cond fits (Ok z) (Err OutOfRange)) (Err fault)) ≡ cond (form && fits) (Some z) None
    by_parts true true z fault = refl
    by_parts true false z fault = refl
    by_parts false fits z fault = refl

-- ---- from 0 to 1

pub millionths_none : (text : List ℕ) → reached_in 1000000 text ≡ None → Err (fault_of text) ≡ millionths_result text
unfolding millionths_result
millionths_none text e = rw (reached_none 1000000 text e) refl

negative_within : (n d q r : ℕ) → 0 < d → q * d + r ≡ n * 1000000 → (min q (2 ^ 127 - 1) == 0 && r == 0) ≡ (n == 0 && leb n d)
negative_within n d q r h e = by_number (cases_eq n 0)
  where
    by_parts : n ≢ 0 → (q ≡ 0) ⊎ (q ≢ 0) → (min q (2 ^ 127 - 1) == 0 && r == 0) ≡ (n == 0 && leb n d)
    by_parts some (inl none) =
        let left : q * d ≡ 0 = ap (λ k. k * d) none ∙ zero-mul d in
        let more : r ≢ 0 = λ z. some (omega (arith, e, left)) in
        rw (ne_eqb n 0 some, ne_eqb r 0 more, and-false) refl
    by_parts some (inr more) =
        let capped : min q (2 ^ 127 - 1) ≢ 0 = λ z. more (omega arith) in
        rw (ne_eqb n 0 some, ne_eqb (min q (2 ^ 127 - 1)) 0 capped) refl

    by_number : (n ≡ 0) ⊎ (n ≢ 0) → (min q (2 ^ 127 - 1) == 0 && r == 0) ≡ (n == 0 && leb n d)
    by_number (inl none) =
        let up : q ≤ q * d = le-mul_of_pos_right q h in
        let quotient : min q (2 ^ 127 - 1) ≡ 0 = omega arith in
        let rest : r ≡ 0 = omega arith in
        rw (eq-eqb (min q (2 ^ 127 - 1)) 0 quotient, eq-eqb r 0 rest, eq-eqb n 0 none, le-leb n d (omega arith)) refl
    by_number (inr some) = by_parts some (cases_eq q 0)

positive_within : (n d q r : ℕ) → 0 < d → r < d → q * d + r ≡ n * 1000000 → (ltb (min q (2 ^ 127 - 1)) 1000000 || (min q (2 ^ 127 - 1) == 1000000 && r == 0)) ≡ leb n d
positive_within n d q r h below e = by_quotient (cases_order q 1000000)
  where
    by_rest : q ≡ 1000000 → (r ≡ 0) ⊎ (r ≢ 0) → (ltb (min q (2 ^ 127 - 1)) 1000000 || (min q (2 ^ 127 - 1) == 1000000 && r == 0)) ≡ leb n d
    by_rest same (inl none) =
        let capped : min q (2 ^ 127 - 1) ≡ 1000000 = omega arith in
        let whole : q * d ≡ 1000000 * d = ap (λ k. k * d) same in
        rw (capped, eq-eqb r 0 none, le-leb n d (omega arith)) refl
    by_rest same (inr some) =
        let capped : min q (2 ^ 127 - 1) ≡ 1000000 = omega arith in
        let whole : q * d ≡ 1000000 * d = ap (λ k. k * d) same in
        rw (capped, ne_eqb r 0 some, lt-leb n d (omega arith)) refl

    by_quotient : (q ≡ 1000000) ⊎ ((q < 1000000) ⊎ (1000000 < q)) → (ltb (min q (2 ^ 127 - 1)) 1000000 || (min q (2 ^ 127 - 1) == 1000000 && r == 0)) ≡ leb n d
    by_quotient (inl same) = by_rest same (cases_eq r 0)
    by_quotient (inr (inl less)) =
        let room : (q + 1) * d ≤ 1000000 * d = mul-le-mul_right d (omega arith) in
        rw (lt-ltb (min q (2 ^ 127 - 1)) 1000000 (omega arith), le-leb n d (omega arith)) refl
    by_quotient (inr (inr greater)) =
        let room : 1000001 * d ≤ q * d = mul-le-mul_right d (omega arith) in
        let other : min q (2 ^ 127 - 1) ≢ 1000000 = λ z. absurd (omega arith) in
        rw (le-ltb (min q (2 ^ 127 - 1)) 1000000 (omega arith), ne_eqb (min q (2 ^ 127 - 1)) 1000000 other, lt-leb n d (omega arith)) refl

within_is : (negative : Bool) (n d : ℕ) → 0 < d → is_reached_within 1000000 negative (reached_by (n * 1000000) d) ≡ ((not negative || n == 0) && leb n d)
within_is true n d h = negative_within n d (n * 1000000 / d) (n * 1000000 % d) h (div-add-mod' (n * 1000000) d)
within_is false n d h = positive_within n d (n * 1000000 / d) (n * 1000000 % d) h (mod_below (n * 1000000) d h) (div-add-mod' (n * 1000000) d)

-- what is within reaches fewer parts than are capped
value_within : (negative : Bool) (n d : ℕ) → 0 < d → ((not negative || n == 0) && leb n d) ≡ true → nat_abs (floor_of negative (n * 1000000) d) ≡ min (n * 1000000 / d) (2 ^ 127 - 1)
value_within true n d h within =
    let none : n ≡ 0 = eqb-true n 0 (and_parts (n == 0) (leb n d) within).0 in
    let above : (n * 1000000 + (d - 1)) / d ≡ 0 = ap (λ k. k / d) (omega arith) ∙ div-mul-add 0 d (d - 1) (omega arith) in
    let below : n * 1000000 / d ≡ 0 = ap (λ k. k / d) (omega arith) ∙ div-mul-add 0 d 0 h in
    rw (above, below) refl
value_within false n d h within =
    let less : n ≤ d = leb-true n d within in
    let few : n * 1000000 / d ≤ 1000000 = div-le_of_le-mul d (omega arith) in
    omega arith

pub millionths_some : (text : List ℕ) (r : Reached) → reached_in 1000000 text ≡ Some r → cond (is_reached_within 1000000 (starts_with_minus text) r) (Ok r.whole) (Err OutOfRange) ≡ millionths_result text
unfolding millionths_result
millionths_some text r e = by_place (cases_Bool (is_within_one text))
  where
    some : (is_number text ≡ true) × (r ≡ reached_by (numerator_of text * 1000000) (denominator_of text))
    some = reached_some 1000000 text r e

    same : is_reached_within 1000000 (starts_with_minus text) (reached_by (numerator_of text * 1000000) (denominator_of text)) ≡ is_within_one text
    same = within_is (starts_with_minus text) (numerator_of text) (denominator_of text) (denominator_positive text)

    by_place : (is_within_one text ≡ true) ⊎ (is_within_one text ≡ false) → cond (is_reached_within 1000000 (starts_with_minus text) r) (Ok r.whole) (Err OutOfRange) ≡ millionths_result text
    by_place (inl within) =
        rw (some.0, some.1, same, within) (ap (λ n. Ok n) (sym (value_within (starts_with_minus text) (numerator_of text) (denominator_of text) (denominator_positive text) within)))
    by_place (inr outside) = rw (some.0, some.1, same, outside) refl

-- The quotient that a decimal's digits give: the front of them, with zeros behind it where the point moves past the last.
use Rattle.std.proofs.Common.{◌≡◌, ◌≢◌, ℕ, zero, suc, ◌+◌, ◌-◌, ◌*◌, ◌/◌, ◌%◌, ◌^◌, ◌<◌, ◌≤◌, min, Bool, true, List, [], ◌∷◌, ◌++◌, length, take, drop, refl, ap, sym, subst, ◌∙◌, arith, ◌==◌, ◌&&◌, ◌⊎◌, inl, inr, take_all, take-append-drop, length-append, length-drop, add-zero, mul-one, zero-mul, suc-mul, lt_of_lt_of_le}
use Rattle.std.proofs.Math.Nat.{one-le-pow, pow-le-pow_right, mul-lt-mul_of_pos_right, le-mul_of_pos_right, mul_assoc, sub-zero, zero-sub, suc-sub-suc}
use Rattle.std.proofs.lemmas.Nat.{pow-add, div-mul-add, mod-mul-add, mod_below, div-add-mod'}
use Rattle.std.proofs.lemmas.Bool.{cases_lt, cases_eq, eq-eqb, ne_eqb, and_parts, and_from}
use Rattle.std.proofs.lemmas.List.{drop_all}
use Rattle.std.proofs.lemmas.List.Folds.{list_all-append}
use Rattle.std.specs.List.{list_all}
use Rattle.std.specs.Int.{IsInRange}
use Rattle.std.specs.Char.{is_ascii_digit, digit_value}
use Rattle.std.specs.Str.Parse.{digits_value, digits_value_after}
use Rattle.std.proofs.lemmas.Str.Parse.{digits_value_short}
use Rattle.fixed_num.proofs.DigitLemmas.{numerals, digits_value-append, digits_value_after_is, digits_value_after-append, digit_value_is, digit_range}

abbrev pub is_zero : ℕ → Bool
is_zero b = b == 48

-- ---- a front of two lists, joined

pub take_joined : (n : ℕ) (xs ys : List ℕ) → take n (xs ++ ys) ≡ take n xs ++ take (n - length xs) ys
take_joined zero xs ys = rw (zero-sub (length xs)) refl
take_joined (suc n) [] ys = rw (sub-zero (suc n)) refl
take_joined (suc n) (x ∷ xs) ys = rw (suc-sub-suc n (length xs)) (ap (λ l. x ∷ l) (take_joined n xs ys))

pub drop_joined : (n : ℕ) (xs ys : List ℕ) → drop n (xs ++ ys) ≡ drop n xs ++ drop (n - length xs) ys
drop_joined zero xs ys = rw (zero-sub (length xs)) refl
drop_joined (suc n) [] ys = rw (sub-zero (suc n)) refl
drop_joined (suc n) (x ∷ xs) ys = rw (suc-sub-suc n (length xs)) (drop_joined n xs ys)

-- ---- digits that are zero

product_zero : (n p : ℕ) → 0 < p → (n * p == 0) ≡ (n == 0)
product_zero zero p h = rw (zero-mul p) refl
product_zero (suc n) p h = ne_eqb (suc n * p) 0 (λ e. absurd (omega (arith, suc-mul n p))) ∙ sym (ne_eqb (suc n) 0 (λ e. absurd (omega arith)))

-- a digit in front of others, which are known to write zero just where each of them is zero
zero_first : (c : ℕ) (cs : List ℕ) → is_ascii_digit c ≡ true → (digits_value 10 cs == 0) ≡ list_all is_zero cs → (digits_value 10 (c ∷ cs) == 0) ≡ list_all is_zero (c ∷ cs)
zero_first c cs digit others = by_first (cases_eq c 48)
  where
    value : digits_value 10 (c ∷ cs) ≡ (0 * 10 + digit_value c) * 10 ^ length cs + digits_value 10 cs
    value = digits_value_after_is (0 * 10 + digit_value c) cs

    by_first : (c ≡ 48) ⊎ (c ≢ 48) → (digits_value 10 (c ∷ cs) == 0) ≡ list_all is_zero (c ∷ cs)
    by_first (inl e) =
        let none : digit_value c ≡ 0 = ap digit_value e in
        let same : digits_value 10 (c ∷ cs) ≡ digits_value 10 cs = value ∙ rw none (omega arith) in
        ap (λ n. n == 0) same ∙ (others ∙ rw (eq-eqb c 48 e) refl)
    by_first (inr other) =
        let range : IsInRange 48 57 c = digit_range c digit in
        let some : 0 < digit_value c = rw (digit_value_is c range) (omega arith) in
        let room : 1 ≤ 10 ^ length cs = one-le-pow (length cs) 10 (omega arith) in
        ne_eqb (digits_value 10 (c ∷ cs)) 0 (λ e. absurd (omega (arith, value, le-mul_of_pos_right (digit_value c) room))) ∙ sym (rw (ne_eqb c 48 other) refl)

-- digits write zero just where each of them is zero
pub zero_digits : (ds : List ℕ) → list_all is_ascii_digit ds ≡ true → (digits_value 10 ds == 0) ≡ list_all is_zero ds
zero_digits [] h = refl
zero_digits (c ∷ cs) h =
    let parts : (is_ascii_digit c ≡ true) × (list_all is_ascii_digit cs ≡ true) = and_parts _ _ h in
    zero_first c cs parts.0 (zero_digits cs parts.1)

-- ---- the quotient and the rest

pub record IsQuotient (n d q r : ℕ) : Type 0 where
  pub whole : n / d ≡ q
  pub rest : n % d ≡ r

quotient_is : (n d q r : ℕ) → n ≡ q * d + r → r < d → IsQuotient n d q r
quotient_is n d q r e h = record { whole = ap (λ k. k / d) e ∙ div-mul-add q d r h; rest = ap (λ k. k % d) e ∙ mod-mul-add q d r h }

pub record IsReach (ds : List ℕ) (keep n d : ℕ) : Type 0 where
  pub whole : n / d ≡ digits_value 10 (take keep ds) * 10 ^ (keep - length ds)
  pub exact : (n % d == 0) ≡ list_all is_zero (drop keep ds)

split_power : (i j k : ℕ) → i + j ≡ k → 10 ^ k ≡ 10 ^ i * 10 ^ j
split_power i j k e = ap (λ n. 10 ^ n) (sym e) ∙ pow-add 10 i j

-- the point moves past the last digit
reach_past : (ds : List ℕ) (keep up down : ℕ) → down ≤ up → keep ≡ length ds + (up - down) → IsReach ds keep (digits_value 10 ds * 10 ^ up) (10 ^ down)
reach_past ds keep up down h e =
    let past : length ds ≤ keep = omega arith in
    let zeros : keep - length ds ≡ up - down = omega arith in
    let parts : digits_value 10 ds * 10 ^ up ≡ digits_value 10 ds * 10 ^ (up - down) * 10 ^ down + 0 =
    rw (split_power (up - down) down up (omega arith), add-zero) (sym (mul_assoc (digits_value 10 ds) (10 ^ (up - down)) (10 ^ down))) in
    let quotient = quotient_is (digits_value 10 ds * 10 ^ up) (10 ^ down) (digits_value 10 ds * 10 ^ (up - down)) 0 parts (one-le-pow down 10 (omega arith)) in
    record {
      whole = quotient.whole ∙ rw (take_all keep ds past, zeros) refl;
      exact = rw (quotient.rest, drop_all keep ds past) refl;
    }

spread : (a b p q : ℕ) → (a * p + b) * q ≡ a * (p * q) + b * q
spread a b p q = omega arith

-- the point moves to a place within the digits, or before the first
parts_within : (a b d up down : ℕ) → d * 10 ^ up ≡ a * 10 ^ down + b * 10 ^ up → b < 10 ^ (down - up) → up < down → IsQuotient (d * 10 ^ up) (10 ^ down) a (b * 10 ^ up)
parts_within a b d up down e small h =
    quotient_is (d * 10 ^ up) (10 ^ down) a (b * 10 ^ up) e
    (rw (split_power (down - up) up down (omega arith)) (mul-lt-mul_of_pos_right small (one-le-pow up 10 (omega arith))))

reach_within : (ds : List ℕ) (keep up down : ℕ) → list_all is_ascii_digit ds ≡ true → up < down → keep ≡ length ds + up - down → IsReach ds keep (digits_value 10 ds * 10 ^ up) (10 ^ down)
reach_within ds keep up down digits h e =
    record {
      whole = quotient.whole ∙ rw (short) (sym (mul-one (digits_value 10 (take keep ds))));
      exact = ap (λ r. r == 0) quotient.rest ∙ (product_zero (digits_value 10 (drop keep ds)) (10 ^ up) (one-le-pow up 10 (omega arith)) ∙ zero_digits (drop keep ds) behind);
    }
  where
    short : keep - length ds ≡ 0
    short = omega arith

    all : (list_all is_ascii_digit (take keep ds) && list_all is_ascii_digit (drop keep ds)) ≡ true
    all = sym (list_all-append is_ascii_digit (take keep ds) (drop keep ds)) ∙ (ap (list_all is_ascii_digit) (take-append-drop keep ds) ∙ digits)

    behind : list_all is_ascii_digit (drop keep ds) ≡ true
    behind = (and_parts (list_all is_ascii_digit (take keep ds)) (list_all is_ascii_digit (drop keep ds)) all).1

    joined : digits_value 10 ds ≡ digits_value 10 (take keep ds) * 10 ^ (length ds - keep) + digits_value 10 (drop keep ds)
    joined = ap (digits_value 10) (sym (take-append-drop keep ds)) ∙ (digits_value-append (take keep ds) (drop keep ds) ∙ rw (length-drop keep ds) refl)

    back : digits_value 10 (drop keep ds) < 10 ^ (length ds - keep)
    back = digits_value_short numerals (drop keep ds) (length ds - keep) behind (omega (arith, length-drop keep ds))

    by_place : (length ds + up < down) ⊎ (down ≤ length ds + up) → IsQuotient (digits_value 10 ds * 10 ^ up) (10 ^ down) (digits_value 10 (take keep ds)) (digits_value 10 (drop keep ds) * 10 ^ up)
    by_place (inl before) =
        let none : keep ≡ 0 = omega arith in
        let room : 10 ^ (length ds - keep) ≤ 10 ^ (down - up) = pow-le-pow_right {n = 10} (omega arith) (omega arith) in
        parts_within (digits_value 10 (take keep ds)) (digits_value 10 (drop keep ds)) (digits_value 10 ds) up down (rw none (omega arith)) (lt_of_lt_of_le back room) h
    by_place (inr within) =
        let places : length ds - keep ≡ down - up = omega arith in
        parts_within (digits_value 10 (take keep ds)) (digits_value 10 (drop keep ds)) (digits_value 10 ds) up down
        (ap (λ d. d * 10 ^ up) joined
        ∙ (spread (digits_value 10 (take keep ds)) (digits_value 10 (drop keep ds)) (10 ^ (length ds - keep)) (10 ^ up)
        ∙ ap (λ p. digits_value 10 (take keep ds) * p + digits_value 10 (drop keep ds) * 10 ^ up) (sym (split_power (length ds - keep) up down (omega arith)))))
        (rw places at back) h

    quotient : IsQuotient (digits_value 10 ds * 10 ^ up) (10 ^ down) (digits_value 10 (take keep ds)) (digits_value 10 (drop keep ds) * 10 ^ up)
    quotient = by_place (cases_lt (length ds + up) down)

pub reach : (ds : List ℕ) (up down : ℕ) → list_all is_ascii_digit ds ≡ true → IsReach ds (length ds + up - down) (digits_value 10 ds * 10 ^ up) (10 ^ down)
reach ds up down digits = by_move (cases_lt up down)
  where
    by_move : (up < down) ⊎ (down ≤ up) → IsReach ds (length ds + up - down) (digits_value 10 ds * 10 ^ up) (10 ^ down)
    by_move (inl h) = reach_within ds _ up down digits h refl
    by_move (inr h) = reach_past ds _ up down h (omega arith)

-- ---- numbers that stay at the greatest of 128 bits

-- digits behind two numbers that are capped alike
cap_after : (x y : ℕ) (ds : List ℕ) → min x (2 ^ 128 - 1) ≡ min y (2 ^ 128 - 1) → min (digits_value_after 10 x ds) (2 ^ 128 - 1) ≡ min (digits_value_after 10 y ds) (2 ^ 128 - 1)
cap_after x y [] e = e
cap_after x y (d ∷ ds) e = cap_after (x * 10 + digit_value d) (y * 10 + digit_value d) ds (omega arith)

cap_tens : (x p : ℕ) → 0 < p → min (min x (2 ^ 128 - 1) * p) (2 ^ 128 - 1) ≡ min (x * p) (2 ^ 128 - 1)
cap_tens x p h = by_size (cases_lt x (2 ^ 128))
  where
    by_size : (x < 2 ^ 128) ⊎ (2 ^ 128 ≤ x) → min (min x (2 ^ 128 - 1) * p) (2 ^ 128 - 1) ≡ min (x * p) (2 ^ 128 - 1)
    by_size (inl few) = let same : min x (2 ^ 128 - 1) ≡ x = omega arith in rw same refl
    by_size (inr many) =
        let most : min x (2 ^ 128 - 1) ≡ 2 ^ 128 - 1 = omega arith in
        let left : 2 ^ 128 - 1 ≤ (2 ^ 128 - 1) * p = le-mul_of_pos_right (2 ^ 128 - 1) h in
        let right : x ≤ x * p = le-mul_of_pos_right x h in
        rw most (omega arith)

pub digits_front : (n : ℕ) (ds : List ℕ) → list_all is_ascii_digit ds ≡ true → list_all is_ascii_digit (take n ds) ≡ true
digits_front n ds h =
    (and_parts (list_all is_ascii_digit (take n ds)) (list_all is_ascii_digit (drop n ds))
    (sym (list_all-append is_ascii_digit (take n ds) (drop n ds)) ∙ (ap (list_all is_ascii_digit) (take-append-drop n ds) ∙ h))).0

-- ---- the digits before and behind a point

abbrev pub moved_numerator : List ℕ → List ℕ → ℕ → ℕ
moved_numerator whole fraction up = digits_value 10 (whole ++ fraction) * 10 ^ up

abbrev pub moved_denominator : List ℕ → ℕ → ℕ
moved_denominator fraction down = 10 ^ (length fraction + down)

reach_of_parts : (whole fraction : List ℕ) (up down : ℕ) → list_all is_ascii_digit whole ≡ true → list_all is_ascii_digit fraction ≡ true → IsReach (whole ++ fraction) (length whole + up - down) (moved_numerator whole fraction up) (moved_denominator fraction down)
reach_of_parts whole fraction up down h k =
    let digits : list_all is_ascii_digit (whole ++ fraction) ≡ true = list_all-append is_ascii_digit whole fraction ∙ and_from _ _ h k in
    let same : length (whole ++ fraction) + up - (length fraction + down) ≡ length whole + up - down = omega (arith, length-append whole fraction) in
    subst (λ keep. IsReach (whole ++ fraction) keep (moved_numerator whole fraction up) (moved_denominator fraction down)) same (reach (whole ++ fraction) up (length fraction + down) digits)

pub reached_whole : (whole fraction : List ℕ) (up down keep zeros : ℕ) → list_all is_ascii_digit whole ≡ true → list_all is_ascii_digit fraction ≡ true → keep ≡ length whole + up - down → zeros ≡ keep - (length whole + length fraction) → min (min (digits_value_after 10 (min (digits_value_after 10 0 (take keep whole)) (2 ^ 128 - 1)) (take (keep - length whole) fraction)) (2 ^ 128 - 1) * 10 ^ zeros) (2 ^ 128 - 1) ≡ min (moved_numerator whole fraction up / moved_denominator fraction down) (2 ^ 128 - 1)
reached_whole whole fraction up down keep zeros h k e z =
    ap (λ n. min (n * 10 ^ zeros) (2 ^ 128 - 1)) (cap_after (min front (2 ^ 128 - 1)) front more (omega arith))
    ∙ (cap_tens (digits_value_after 10 front more) (10 ^ zeros) (one-le-pow zeros 10 (omega arith))
    ∙ ap (λ n. min n (2 ^ 128 - 1)) quotient)
  where
    front : ℕ
    front = digits_value_after 10 0 (take keep whole)

    more : List ℕ
    more = take (keep - length whole) fraction

    joined : digits_value_after 10 (digits_value_after 10 0 (take keep whole)) (take (keep - length whole) fraction) ≡ digits_value 10 (take keep (whole ++ fraction))
    joined = sym (digits_value_after-append 0 (take keep whole) (take (keep - length whole) fraction)) ∙ ap (digits_value 10) (sym (take_joined keep whole fraction))

    behind : zeros ≡ keep - length (whole ++ fraction)
    behind = omega (arith, length-append whole fraction)

    quotient : digits_value_after 10 (digits_value_after 10 0 (take keep whole)) (take (keep - length whole) fraction) * 10 ^ zeros ≡ moved_numerator whole fraction up / moved_denominator fraction down
    quotient = rw (joined, behind, e) (sym (reach_of_parts whole fraction up down h k).whole)

pub reached_exact : (whole fraction : List ℕ) (up down keep : ℕ) → list_all is_ascii_digit whole ≡ true → list_all is_ascii_digit fraction ≡ true → keep ≡ length whole + up - down → (list_all is_zero (drop keep whole) && list_all is_zero (drop (keep - length whole) fraction)) ≡ (moved_numerator whole fraction up % moved_denominator fraction down == 0)
reached_exact whole fraction up down keep h k e =
    sym (list_all-append is_zero (drop keep whole) (drop (keep - length whole) fraction))
    ∙ (ap (list_all is_zero) (sym (drop_joined keep whole fraction))
    ∙ (ap (λ n. list_all is_zero (drop n (whole ++ fraction))) e ∙ sym (reach_of_parts whole fraction up down h k).exact))

-- a number that is capped is capped again at a lesser one
capped_again : (t q : ℕ) → t ≡ min q (2 ^ 128 - 1) → min t (2 ^ 127 - 1) ≡ min q (2 ^ 127 - 1)
capped_again t q e = omega arith

-- what the digits reach, by the steps in which it is computed
pub reached_record : (whole fraction front rest more last : List ℕ) (up down keep left zeros first both tens : ℕ) (exact : Bool)
    → list_all is_ascii_digit whole ≡ true → list_all is_ascii_digit fraction ≡ true
    → keep ≡ length whole + up - down → left ≡ keep - length whole → zeros ≡ keep - (length whole + length fraction)
    → front ≡ take keep whole → rest ≡ drop keep whole → more ≡ take left fraction → last ≡ drop left fraction
    → first ≡ min (digits_value_after 10 0 front) (2 ^ 128 - 1) → both ≡ min (digits_value_after 10 first more) (2 ^ 128 - 1) → tens ≡ min (both * 10 ^ zeros) (2 ^ 128 - 1)
    → exact ≡ (list_all is_zero rest && list_all is_zero last)
    → (min tens (2 ^ 127 - 1) ≡ min (moved_numerator whole fraction up / moved_denominator fraction down) (2 ^ 127 - 1)) × (exact ≡ (moved_numerator whole fraction up % moved_denominator fraction down == 0))
reached_record whole fraction front rest more last up down keep left zeros first both tens exact h k keep-is left-is zeros-is front-is rest-is more-is last-is first-is both-is tens-is exact-is = (
  capped_again tens _ (rw (tens-is, both-is, first-is, front-is, more-is, left-is) (reached_whole whole fraction up down keep zeros h k keep-is zeros-is)),
  rw (exact-is, rest-is, last-is, left-is) (reached_exact whole fraction up down keep h k keep-is),
)

-- ---- few digits, by the numbers before and behind the point

pub product_below : (n k : ℕ) → k ≤ 9 → n < 10 ^ (18 - k) → n * 10 ^ k < 10 ^ 18
product_below n k few less = rw (split_power (18 - k) k 18 (omega arith)) (mul-lt-mul_of_pos_right less (one-le-pow k 10 (omega arith)))

joined_parts : (a b p f q r : ℕ) → b * f ≡ q * p + r → (a * p + b) * f ≡ (a * f + q) * p + r
joined_parts a b p f q r e = omega arith

pub parts_quotient : (whole fraction : List ℕ) (factor : ℕ) → IsQuotient (digits_value 10 (whole ++ fraction) * factor) (10 ^ (length fraction + 0))
    (digits_value 10 whole * factor + digits_value 10 fraction * factor / 10 ^ length fraction) (digits_value 10 fraction * factor % 10 ^ length fraction)
parts_quotient whole fraction factor =
    rw (add-zero, digits_value-append whole fraction)
    (quotient_is _ (10 ^ length fraction) _ _
    (joined_parts (digits_value 10 whole) (digits_value 10 fraction) (10 ^ length fraction) factor (digits_value 10 fraction * factor / 10 ^ length fraction) (digits_value 10 fraction * factor % 10 ^ length fraction) (sym (div-add-mod' (digits_value 10 fraction * factor) (10 ^ length fraction))))
    (mod_below (digits_value 10 fraction * factor) (10 ^ length fraction) (one-le-pow (length fraction) 10 (omega arith))))

-- Proofs of the laws of quotients, and of quotients of numbers that are split by the divisor.
use Rattle.std.proofs.Common.{◌≡◌, ℕ, zero, suc, ℤ, pos, negsuc, ◌+◌, ◌-◌, ◌*◌, ◌/◌, ◌%◌, ◌^◌, ◌<◌, ◌≤◌, ◌+ℤ◌, ◌*ℤ◌, ◌≤ℤ◌, ◌<ℤ◌, None, Some, FitsSigned, Option, SomeIff, is_some, true≢false, unsigned_abs, unwrap_or, inl, inr, refl, sym, ap, subst, ◌∙◌, arith}
use borrow.Author.Differences.{up, down, product_is}
use Rattle.std.specs.Int.{int_div_euclid, int_rem_euclid, w64, w128}
use mir.Syntax.{Width}
use Rattle.std.proofs.Math.Nat.{div-le_self}
use Rattle.std.proofs.lemmas.Bool.{cases_lt}
use Rattle.std.proofs.lemmas.Int.{by_lt_z, fits_signed_from_abs, ints, unsigned_abs-mul}
use Rattle.std.proofs.lemmas.Nat.{div-add-mod', div_below, mod_below, mul-le}
use Rattle.fixed_num.specs.Milli.{value_of}
use Rattle.fixed_num.proofs.FitLemmas.{values_are_within}
use Rattle.fixed_num.proofs.MilliBytes.{value_is}
use Rattle.series_set.proofs.LawLemmas.{floor_is}
use Rattle.series_funcs.specs.FuncLaws.{SignsCancel}
use Rattle.series_funcs.specs.Quotients.{floor_quotient}

pub signs_cancel : SignsCancel
signs_cancel a zero some = absurd (omega arith)
signs_cancel a (suc b) some = refl

-- ---- sums and products

spread : (x y z : ℤ) → (x +ℤ y) *ℤ z ≡ (x *ℤ z) +ℤ (y *ℤ z)
spread x y z =
    let sum : up (x +ℤ y) + down x + down y ≡ down (x +ℤ y) + up x + up y = omega (arith, ints) in
    let above = ap (λ (n : ℕ). n * up z) sum in
    let below = ap (λ (n : ℕ). n * down z) sum in
    omega (arith, ints, above, below)

turned : (x y z : ℤ) → (x *ℤ y) *ℤ z ≡ (x *ℤ z) *ℤ y
turned x y z =
    let xy = product_is x y in
    let xz = product_is x z in
    omega (arith, ints, ap (λ (n : ℕ). n * up z) xy.0, ap (λ (n : ℕ). n * down z) xy.0, ap (λ (n : ℕ). n * up z) xy.1, ap (λ (n : ℕ). n * down z) xy.1, ap (λ (n : ℕ). n * up y) xz.0, ap (λ (n : ℕ). n * down y) xz.0, ap (λ (n : ℕ). n * up y) xz.1, ap (λ (n : ℕ). n * down y) xz.1)

-- ---- one quotient

no_less : (a x y : ℤ) (n : ℕ) → a <ℤ ((x +ℤ pos 1) *ℤ pos n) → (y *ℤ pos n) ≤ℤ a → x <ℤ y → ⊥
no_less a x y n high low less =
    let more : (up x + 1 + down y) * n ≤ (up y + down x) * n = mul-le (up x + 1 + down y) n (up y + down x) n (omega (arith, ints)) (omega arith) in
    let next : ((x +ℤ pos 1) *ℤ pos n) ≡ (x *ℤ pos n) +ℤ (pos 1 *ℤ pos n) = spread x (pos 1) (pos n) in
    let both : (y *ℤ pos n) <ℤ ((x *ℤ pos n) +ℤ (pos 1 *ℤ pos n)) = subst (λ (z : ℤ). (y *ℤ pos n) <ℤ z) next (omega (arith, ints, high, low)) in
    omega (arith, ints, both, more)

-- a number has one quotient
one_floor : (a x y : ℤ) (n : ℕ) → (x *ℤ pos n) ≤ℤ a → a <ℤ ((x +ℤ pos 1) *ℤ pos n) → (y *ℤ pos n) ≤ℤ a → a <ℤ ((y +ℤ pos 1) *ℤ pos n) → x ≡ y
one_floor a x y n x_low x_high y_low y_high =
    by_lt_z x y (λ less. absurd (no_less a x y n x_high y_low less)) (λ ge. by_lt_z y x (λ less. absurd (no_less a y x n y_high x_low less)) (λ le. omega (arith, ints, ge, le)))

-- ---- numbers that are split

cut_by : (a : ℤ) (n : ℕ) → 0 < n → a ≡ (int_div_euclid a (pos n) *ℤ pos n) +ℤ int_rem_euclid a (pos n)
cut_by (pos a) n some = omega (arith, ints, div-add-mod' a n)
cut_by (negsuc a) n some = omega (arith, ints, div-add-mod' a n, mod_below a n some)

rest_of : (a : ℤ) (n : ℕ) → 0 < n → (r : ℕ) × (int_rem_euclid a (pos n) ≡ pos r) × (r < n)
rest_of (pos a) n some = (a % n, refl, mod_below a n some)
rest_of (negsuc a) n some = (n - 1 - a % n, refl, omega (arith, some))

-- the product of a number that is cut
product_cut : (a by q r : ℤ) (n : ℕ) → a ≡ (q *ℤ pos n) +ℤ r → a *ℤ by ≡ ((q *ℤ by) *ℤ pos n) +ℤ (r *ℤ by)
product_cut a by q r n cut = ap (λ (z : ℤ). z *ℤ by) cut ∙ spread (q *ℤ pos n) r by ∙ ap (λ (z : ℤ). z +ℤ (r *ℤ by)) (turned q (pos n) by)

split_floor : (a by : ℤ) (n : ℕ) → 0 < n → int_div_euclid (a *ℤ by) (pos n) ≡ (int_div_euclid a (pos n) *ℤ by) +ℤ int_div_euclid (int_rem_euclid a (pos n) *ℤ by) (pos n)
split_floor a by n some =
    let q = int_div_euclid a (pos n) in
    let r = int_rem_euclid a (pos n) in
    let f = int_div_euclid (r *ℤ by) (pos n) in
    let whole = floor_is (a *ℤ by) n some in
    let part = floor_is (r *ℤ by) n some in
    let is = product_cut a by q r n (cut_by a n some) in
    let low = spread (q *ℤ by) f (pos n) in
    let high = spread ((q *ℤ by) +ℤ f) (pos 1) (pos n) in
    let part_high = spread f (pos 1) (pos n) in
    one_floor (a *ℤ by) _ ((q *ℤ by) +ℤ f) n whole.0 whole.1 (omega (arith, ints, is, low, part.0)) (omega (arith, ints, is, low, high, part_high, part.1))

-- ---- what does not fit

-- where a number is at most m divisors from 0, its quotient is at most m
quotient_near : (z : ℤ) (n m : ℕ) → 0 < n → unsigned_abs z ≤ m * n → unsigned_abs (int_div_euclid z (pos n)) ≤ m
quotient_near (pos a) n m some near = let below : a / n < m + 1 = div_below a n (m + 1) some (omega (arith, some, near)) in omega (arith, below)
quotient_near (negsuc a) n m some near = let below : a / n < m = div_below a n m some (omega (arith, near)) in omega (arith, below)

past_all : (z : ℤ) → 10 ^ 30 < unsigned_abs z → None ≡ value_of z
unfolding value_of
past_all z past = rw (values_are_within z past) refl

past_128 : (z : ℤ) → (FitsSigned w128 z → ⊥) → 2 ^ 127 ≤ unsigned_abs z
past_128 z past = elim (cases_lt (unsigned_abs z) (2 ^ 127)) [ inl less ↦ absurd (past (fits_signed_from_abs w128 z less)) | inr far ↦ far ]

-- what is left beside the whole is less than half of what 128 bits hold
rest_near : (k n b : ℕ) → k < n → n * b < 2 ^ 127 → (m : ℕ) × (k * b ≤ m * n) × (m < 2 ^ 126)
rest_near k n b small room =
    elim (cases_lt n 2) [
      | inl one ↦ let none : k ≡ 0 = omega (arith, one, small) in (0, omega (arith, ap (λ (j : ℕ). j * b) none), omega arith)
      | inr more ↦ (b, omega (arith, mul-le k b n b (omega (arith, small)) (omega arith)), omega (arith, room, mul-le 2 b n b more (omega arith)))
    ]

part_near : (number by : ℤ) (n : ℕ) → 0 < n → n * unsigned_abs by < 2 ^ 127 → unsigned_abs (int_div_euclid (int_rem_euclid number (pos n) *ℤ by) (pos n)) < 2 ^ 126
part_near number by n some room =
    let rest = rest_of number n some in
    let near = rest_near rest.0 n (unsigned_abs by) rest.2 room in
    let long : unsigned_abs (int_rem_euclid number (pos n) *ℤ by) ≡ rest.0 * unsigned_abs by = ap (λ (z : ℤ). unsigned_abs (z *ℤ by)) rest.1 ∙ unsigned_abs-mul (pos rest.0) by in
    let m : unsigned_abs (int_div_euclid (int_rem_euclid number (pos n) *ℤ by) (pos n)) ≤ near.0 = quotient_near (int_rem_euclid number (pos n) *ℤ by) n near.0 some (omega (arith, long, near.1)) in
    omega (arith, m, near.2)

far_sum : (x y : ℤ) → 2 ^ 127 ≤ unsigned_abs x → unsigned_abs y < 2 ^ 126 → 10 ^ 30 < unsigned_abs (x +ℤ y)
far_sum x y far near = omega (arith, ints, far, near)

-- where 128 bits do not hold the larger part, the quotient is past all values
whole_past : (number by divisor : ℤ) → pos 0 <ℤ divisor → unsigned_abs divisor * unsigned_abs by < 2 ^ 127 → (FitsSigned w128 (int_div_euclid number divisor *ℤ by) → ⊥)
    → None ≡ value_of (floor_quotient (number *ℤ by) divisor)
whole_past number by (pos n) some room past =
    let least : 0 < n = omega (arith, ints, some) in
    past_all _ (far_sum (int_div_euclid number (pos n) *ℤ by) _ (past_128 _ past) (part_near number by n least room)) ∙ ap value_of (sym (split_floor number by n least))
whole_past number by (negsuc n) some room past = absurd (omega (arith, ints, some))

pub whole_missing : (number by divisor : ℤ) (whole : Option ℤ) → pos 0 <ℤ divisor → unsigned_abs divisor * unsigned_abs by < 2 ^ 127
    → SomeIff whole (FitsSigned w128 (int_div_euclid number divisor *ℤ by)) (int_div_euclid number divisor *ℤ by) → whole ≡ None
    → None ≡ value_of (floor_quotient (number *ℤ by) divisor)
whole_missing number by divisor None some room told is = whole_past number by divisor some room told
whole_missing number by divisor (Some x) some room told is = absurd (true≢false (ap is_some is))

-- a sum that 128 bits do not hold is past all values
pub sum_missing : (sum : ℤ) (found : Option ℤ) → SomeIff found (FitsSigned w128 sum) sum → found ≡ None → None ≡ value_of sum
sum_missing sum None told is = let far = past_128 sum told in past_all sum (omega (arith, far))
sum_missing sum (Some x) told is = absurd (true≢false (ap is_some is))

-- what was found
pub found_is : (z x : ℤ) (found : Option ℤ) → SomeIff found (FitsSigned w128 z) z → found ≡ Some x → x ≡ z
found_is z x None told is = absurd (true≢false (sym (ap is_some is)))
found_is z x (Some y) told is = ap (λ (o : Option ℤ). unwrap_or o x) (sym is) ∙ told.1

-- where they hold both, their sum is the quotient
pub both_are : (number by divisor : ℤ) → pos 0 <ℤ divisor
    → (int_div_euclid number divisor *ℤ by) +ℤ int_div_euclid (int_rem_euclid number divisor *ℤ by) divisor ≡ floor_quotient (number *ℤ by) divisor
both_are number by (pos n) some = sym (split_floor number by n (omega (arith, ints, some)))
both_are number by (negsuc n) some = absurd (omega (arith, ints, some))

-- a product of the rest has 128 bits
pub rest_fits : (number by divisor : ℤ) → pos 0 <ℤ divisor → unsigned_abs divisor * unsigned_abs by < 2 ^ 127 → FitsSigned w128 (int_rem_euclid number divisor *ℤ by)
rest_fits number by (pos n) some room =
    let rest = rest_of number n (omega (arith, ints, some)) in
    let long : unsigned_abs (int_rem_euclid number (pos n) *ℤ by) ≡ rest.0 * unsigned_abs by = ap (λ (z : ℤ). unsigned_abs (z *ℤ by)) rest.1 ∙ unsigned_abs-mul (pos rest.0) by in
    fits_signed_from_abs w128 _ (omega (arith, long, room, mul-le rest.0 (unsigned_abs by) n (unsigned_abs by) (omega (arith, rest.2)) (omega arith)))
rest_fits number by (negsuc n) some room = absurd (omega (arith, ints, some))

-- a quotient has no more bits than the number
pub quotient_fits : (w : Width) (z divisor : ℤ) → pos 0 <ℤ divisor → FitsSigned w z → FitsSigned w (int_div_euclid z divisor)
quotient_fits w (pos a) (pos n) some fits = record { sfits = omega (arith, fits.sfits, div-le_self a n) }
quotient_fits w (negsuc a) (pos n) some fits = record { sfits = omega (arith, fits.sfits, div-le_self a n) }
quotient_fits w (pos a) (negsuc n) some fits = absurd (omega (arith, ints, some))
quotient_fits w (negsuc a) (negsuc n) some fits = absurd (omega (arith, ints, some))

-- a quotient of a number of 64 bits is a value
short_quotient : (z : ℤ) (n : ℕ) → 0 < n → unsigned_abs z ≤ 2 ^ 63 → Some (int_div_euclid z (pos n)) ≡ value_of (int_div_euclid z (pos n))
short_quotient z n some short =
    let near : unsigned_abs (int_div_euclid z (pos n)) ≤ 2 ^ 63 = quotient_near z n (2 ^ 63) some (omega (arith, short, mul-le (2 ^ 63) 1 (2 ^ 63) n (omega arith) some)) in
    sym (value_is (int_div_euclid z (pos n)) (omega (arith, near)))

pub short_is : (z divisor : ℤ) → pos 0 <ℤ divisor → FitsSigned w64 z → Some (int_div_euclid z divisor) ≡ value_of (int_div_euclid z divisor)
short_is z (pos n) some fits = short_quotient z n (omega (arith, ints, some)) (omega (arith, ints, fits))
short_is z (negsuc n) some fits = absurd (omega (arith, ints, some))

-- No double is nearer than the one of rounded significand.
use Rattle.std.proofs.Common.{◌≡◌, ℕ, zero, suc, ◌+◌, ◌-◌, ◌*◌, ◌%◌, ◌^◌, ◌<◌, ◌≤◌, ◌==◌, ◌⊎◌, inl, inr, ⊎_elim, Bool, true, false, if◌then◌else◌, ℤ, pos, negsuc, neg_ℤ, ◌-ℤ◌, ◌*ℤ◌, ◌<ℤ◌, nat_abs, unsigned_abs, refl, sym, subst, ◌∙◌, ap, ap₂, arith, rules, le-leb, ltb, ltb-false, ltb-true, mul-le-mul_right, ne_eqb, eq-eqb, pow_pos, pow-add, pow-suc}
use Rattle.std.proofs.lemmas.Bool.{cases_Bool, cases_lt, cases_order, cond-false, cond-true, cond_both, lt-leb}
use Rattle.std.proofs.Math.Nat.{pow-le-pow_right}
use Rattle.pickle_form.specs.Double.{IsHalfEven, IsNearest, distance, double_bits, exponent_of, fraction_of, half_even, is_negative, last_place, magnitude, magnitude_bits, units, units_of_one}
use Rattle.pickle_form.proofs.PlacedLemmas.{Placed, magnitude_is, placed_at}

-- ---- distances

-- how far apart two numbers are
abbrev gap : ℕ → ℕ → ℕ
gap x y = (x - y) + (y - x)

gap_of_cond : (x y : ℕ) → nat_abs (pos x -ℤ pos y) ≡ gap x y
gap_of_cond x zero = omega arith
gap_of_cond x (suc y) =
    cond_both (ltb x (suc y)) (negsuc (suc y - suc x)) (pos (x - suc y)) (λ (z : ℤ). nat_abs z ≡ gap x (suc y))
    (λ t. omega (arith, ltb-true x (suc y) t)) (λ f. omega (arith, ltb-false x (suc y) f))

opposite : (x y : ℕ) → nat_abs (neg_ℤ (pos x) -ℤ pos y) ≡ x + y
opposite zero zero = refl
opposite zero (suc y) =
    cond_both (ltb 0 (suc y)) (negsuc (suc y - suc 0)) (pos (0 - suc y)) (λ (z : ℤ). nat_abs z ≡ 0 + suc y)
    (λ t. omega arith) (λ f. omega (arith, ltb-false 0 (suc y) f))
opposite (suc x) zero =
    cond_both (ltb 0 (suc x)) (negsuc (suc x - suc 0)) (pos (0 - suc x)) (λ (z : ℤ). nat_abs z ≡ suc x + 0)
    (λ t. omega arith) (λ f. omega (arith, ltb-false 0 (suc x) f))
opposite (suc x) (suc y) = omega arith

both_negative : (x y : ℕ) → nat_abs (neg_ℤ (pos x) -ℤ neg_ℤ (pos y)) ≡ gap x y
both_negative zero zero = refl
both_negative zero (suc y) = omega arith
both_negative (suc x) zero =
    cond_both (ltb 0 (suc x)) (negsuc (suc x - suc 0)) (pos (0 - suc x)) (λ (z : ℤ). nat_abs z ≡ gap (suc x) 0)
    (λ t. omega arith) (λ f. omega (arith, ltb-false 0 (suc x) f))
both_negative (suc x) (suc y) =
    cond_both (ltb (suc y) (suc x)) (negsuc (suc x - suc (suc y))) (pos (suc y - suc x)) (λ (z : ℤ). nat_abs z ≡ gap (suc x) (suc y))
    (λ t. omega (arith, ltb-true (suc y) (suc x) t)) (λ f. omega (arith, ltb-false (suc y) (suc x) f))

other_side : (x y : ℕ) → nat_abs (pos x -ℤ neg_ℤ (pos y)) ≡ x + y
other_side x zero = omega arith
other_side x (suc y) = refl

times_negative : (m : ℕ) → pos 1000 *ℤ neg_ℤ (pos m) ≡ neg_ℤ (pos (1000 * m))
times_negative zero = refl
times_negative (suc m) = refl

-- the four cases of signs
plain_plain : (a b : ℕ) → is_negative b ≡ false → distance (pos a) b ≡ gap (1000 * magnitude b) (a * units_of_one)
unfolding distance units
plain_plain a b sign =
    ap (λ (u : ℤ). nat_abs ((pos 1000 *ℤ u) -ℤ pos (a * units_of_one))) (cond-false (is_negative b) _ _ sign)
    ∙ gap_of_cond (1000 * magnitude b) (a * units_of_one)

plain_negative : (a b : ℕ) → is_negative b ≡ true → distance (pos a) b ≡ 1000 * magnitude b + a * units_of_one
unfolding distance units
plain_negative a b sign =
    ap (λ (u : ℤ). nat_abs ((pos 1000 *ℤ u) -ℤ pos (a * units_of_one))) (cond-true (is_negative b) _ _ sign)
    ∙ (ap (λ (z : ℤ). nat_abs (z -ℤ pos (a * units_of_one))) (times_negative (magnitude b)) ∙ opposite (1000 * magnitude b) (a * units_of_one))

negative_negative : (k b : ℕ) → is_negative b ≡ true → distance (negsuc k) b ≡ gap (1000 * magnitude b) (suc k * units_of_one)
unfolding distance units
negative_negative k b sign =
    ap (λ (u : ℤ). nat_abs ((pos 1000 *ℤ u) -ℤ neg_ℤ (pos (suc k * units_of_one)))) (cond-true (is_negative b) _ _ sign)
    ∙ (ap (λ (z : ℤ). nat_abs (z -ℤ neg_ℤ (pos (suc k * units_of_one)))) (times_negative (magnitude b)) ∙ both_negative (1000 * magnitude b) (suc k * units_of_one))

negative_plain : (k b : ℕ) → is_negative b ≡ false → distance (negsuc k) b ≡ 1000 * magnitude b + suc k * units_of_one
unfolding distance units
negative_plain k b sign =
    ap (λ (u : ℤ). nat_abs ((pos 1000 *ℤ u) -ℤ neg_ℤ (pos (suc k * units_of_one)))) (cond-false (is_negative b) _ _ sign)
    ∙ other_side (1000 * magnitude b) (suc k * units_of_one)

same_units : (b c : ℕ) → is_negative b ≡ is_negative c → magnitude b ≡ magnitude c → units b ≡ units c
unfolding units
same_units b c sign size = ap₂ (λ (s : Bool) (m : ℕ). if s then neg_ℤ (pos m) else pos m) sign size

-- ---- magnitudes

magnitude_normal : (b e f : ℕ) → exponent_of b ≡ suc e → fraction_of b ≡ f → magnitude b ≡ (2 ^ 52 + f) * 2 ^ e
unfolding magnitude
magnitude_normal b e f exponent fraction =
    cond-false (exponent_of b == 0) _ _ (ne_eqb (exponent_of b) 0 (λ none. absurd (omega (arith, exponent, none))))
    ∙ ap₂ (λ (x y : ℕ). (2 ^ 52 + x) * 2 ^ y) fraction (omega (arith, exponent))

magnitude_small : (b : ℕ) → exponent_of b ≡ 0 → magnitude b ≡ fraction_of b
unfolding magnitude
magnitude_small b none = cond-true (exponent_of b == 0) _ _ (eq-eqb (exponent_of b) 0 none)

magnitude_by : (b c : ℕ) → exponent_of b ≡ exponent_of c → fraction_of b ≡ fraction_of c → magnitude b ≡ magnitude c
unfolding magnitude
magnitude_by b c exponent fraction = ap₂ (λ (e f : ℕ). if e == 0 then f else (2 ^ 52 + f) * 2 ^ (e - 1)) exponent fraction

carry_case : (t m : ℕ) → m ≡ 2 ^ 53 → (2 ^ 52 + 0) * 2 ^ suc t ≡ m * 2 ^ t
carry_case t m is = omega (arith, pow-suc 2 t, ap (λ (x : ℕ). x * 2 ^ t) is)

magnitude_of : (t m : ℕ) → t ≤ 1140 → 2 ^ 52 ≤ m → m ≤ 2 ^ 53 → magnitude (t * 2 ^ 52 + m) ≡ m * 2 ^ t
magnitude_of t m few low high =
    ⊎_elim
    (λ below.
    magnitude_normal (t * 2 ^ 52 + m) t (m - 2 ^ 52) (omega (arith, few, low, below)) (omega (arith, low, below))
    ∙ ap (λ (x : ℕ). x * 2 ^ t) (omega (arith, low)))
    (λ above.
    magnitude_normal (t * 2 ^ 52 + m) (suc t) 0 (omega (arith, few, high, above)) (omega (arith, high, above))
    ∙ carry_case t m (omega (arith, high, above)))
    (cases_lt m (2 ^ 53))

-- A double is small beside the last place of others, or a multiple of it.
abbrev Beside : ℕ → ℕ → Type 0
Beside size t = (size ≤ 2 ^ 52 * 2 ^ t) ⊎ ((j : ℕ) × (size ≡ j * 2 ^ t))

small_beside : (f e t : ℕ) → f < 2 ^ 52 → e < t → (2 ^ 52 + f) * 2 ^ e ≤ 2 ^ 52 * 2 ^ t
small_beside f e t less below =
    let grows : 2 ^ (e + 1) ≤ 2 ^ t = pow-le-pow_right (omega arith) (omega (arith, below)) in
    let front : (2 ^ 52 + f) * 2 ^ e ≤ 2 ^ 53 * 2 ^ e = mul-le-mul_right (2 ^ e) (omega (arith, less)) in
    omega (arith, front, grows, pow-add 2 e 1)

multiple_beside : (f e t : ℕ) → t ≤ e → (2 ^ 52 + f) * 2 ^ e ≡ ((2 ^ 52 + f) * 2 ^ (e - t)) * 2 ^ t
multiple_beside f e t above =
    ap (λ (x : ℕ). (2 ^ 52 + f) * 2 ^ x) (omega (arith, above))
    ∙ (ap (λ (x : ℕ). (2 ^ 52 + f) * x) (pow-add 2 (e - t) t) ∙ omega arith)

beside_of : (b x t : ℕ) → exponent_of b ≡ x → Beside (magnitude b) t
beside_of b zero t is =
    inl (omega (arith, magnitude_small b is, pow_pos t, mod_of_52 b))
  where
    mod_of_52 : (b : ℕ) → b % 2 ^ 52 < 2 ^ 52
    mod_of_52 b = omega arith
beside_of b (suc e) t is =
    let size = magnitude_normal b e (fraction_of b) is refl in
    ⊎_elim
    (λ below. inl (subst (λ (s : ℕ). s ≤ 2 ^ 52 * 2 ^ t) (sym size) (small_beside (fraction_of b) e t (omega arith) below)))
    (λ above. inr ((2 ^ 52 + fraction_of b) * 2 ^ (e - t), size ∙ multiple_beside (fraction_of b) e t above))
    (cases_lt e t)

-- ---- the nearest of all

significand_low : (n d m : ℕ) → 0 < d → Placed n d m → 2 ^ 52 ≤ m
significand_low n d m some p =
    ⊎_elim (λ less. absurd (omega (arith, p.low, p.half.high, some, mul-le-mul_right d less))) (λ more. more) (cases_lt m (2 ^ 52))

significand_high : (n d m : ℕ) → 0 < d → Placed n d m → m ≤ 2 ^ 53
significand_high n d m some p =
    ⊎_elim (λ more. absurd (omega (arith, p.high, p.half.low, some, mul-le-mul_right d more))) (λ less. less) (cases_lt (2 ^ 53) m)

near_multiple : (n d m j : ℕ) → IsHalfEven n d m → gap (m * d) n ≤ gap (j * d) n
near_multiple n d m j h =
    ⊎_elim (λ same. subst (λ (k : ℕ). gap (m * d) n ≤ gap (k * d) n) (sym same) (omega arith))
    (λ other. ⊎_elim
    (λ less. omega (arith, h.low, h.high, mul-le-mul_right d less))
    (λ more. omega (arith, h.low, h.high, mul-le-mul_right d more)) other)
    (cases_order j m)

tie_multiple : (n d m j : ℕ) → 0 < d → IsHalfEven n d m → gap (j * d) n ≡ gap (m * d) n → (j ≡ m → ⊥) → m % 2 ≡ 0
tie_multiple n d m j some h tie other =
    ⊎_elim (λ same. absurd (other same))
    (λ apart. ⊎_elim
    (λ less. h.low_tie (omega (arith, tie, some, h.low, h.high, mul-le-mul_right d less)))
    (λ more. h.high_tie (omega (arith, tie, some, h.low, h.high, mul-le-mul_right d more))) apart)
    (cases_order j m)

-- nearer than what is below all significands
below_all : (n d m y : ℕ) → Placed n d m → y ≤ 2 ^ 52 * d → gap (m * d) n ≤ gap y n
below_all n d m y p small =
    let near = near_multiple n d m (2 ^ 52) p.half in
    omega (arith, near, small, p.low)

tie_below : (n d m y : ℕ) → Placed n d m → y ≤ 2 ^ 52 * d → gap y n ≡ gap (m * d) n → y ≡ 2 ^ 52 * d
tie_below n d m y p small tie =
    let near = near_multiple n d m (2 ^ 52) p.half in
    omega (arith, near, small, p.low, tie)

-- the distance is less than the number
inside : (n d m : ℕ) → 0 < d → Placed n d m → gap (m * d) n < n
inside n d m some p =
    let near = near_multiple n d m (2 ^ 52) p.half in
    omega (arith, near, some, p.low)

scaled : (j t : ℕ) → 1000 * (j * 2 ^ t) ≡ j * (1000 * 2 ^ t)
scaled j t = omega arith

core_near : (n t m size : ℕ) → Placed n (1000 * 2 ^ t) m → Beside size t → gap (m * (1000 * 2 ^ t)) n ≤ gap (1000 * size) n
core_near n t m size p (inl small) = below_all n (1000 * 2 ^ t) m (1000 * size) p (omega (arith, small))
core_near n t m size p (inr (j, is)) =
    subst (λ (y : ℕ). gap (m * (1000 * 2 ^ t)) n ≤ gap y n) (sym (ap (λ (s : ℕ). 1000 * s) is ∙ scaled j t)) (near_multiple n (1000 * 2 ^ t) m j p.half)

core_even : (n t m size : ℕ) → Placed n (1000 * 2 ^ t) m → Beside size t → gap (1000 * size) n ≡ gap (m * (1000 * 2 ^ t)) n → (size ≡ m * 2 ^ t → ⊥) → m % 2 ≡ 0
core_even n t m size p (inl small) tie other =
    let some : 0 < 1000 * 2 ^ t = omega (arith, pow_pos t) in
    let y : 1000 * size ≡ 2 ^ 52 * (1000 * 2 ^ t) = tie_below n (1000 * 2 ^ t) m (1000 * size) p (omega (arith, small)) tie in
    let is : size ≡ 2 ^ 52 * 2 ^ t = omega (arith, y) in
    tie_multiple n (1000 * 2 ^ t) m (2 ^ 52) some p.half (ap (λ (x : ℕ). gap x n) (sym y) ∙ tie) (λ same. other (is ∙ ap (λ (k : ℕ). k * 2 ^ t) same))
core_even n t m size p (inr (j, is)) tie other =
    let some : 0 < 1000 * 2 ^ t = omega (arith, pow_pos t) in
    let y : 1000 * size ≡ j * (1000 * 2 ^ t) = ap (λ (s : ℕ). 1000 * s) is ∙ scaled j t in
    tie_multiple n (1000 * 2 ^ t) m j some p.half (ap (λ (x : ℕ). gap x n) (sym y) ∙ tie) (λ same. other (is ∙ ap (λ (k : ℕ). k * 2 ^ t) same))

-- What holds of the double of a number above 0, whatever the sign is.
record Core (a b : ℕ) : Type 0 where
  plain : b < 2 ^ 63
  finite : exponent_of b < 2047
  near : (c : ℕ) → gap (1000 * magnitude b) (a * units_of_one) ≤ gap (1000 * magnitude c) (a * units_of_one)
  even : (c : ℕ) → gap (1000 * magnitude c) (a * units_of_one) ≡ gap (1000 * magnitude b) (a * units_of_one) → (magnitude c ≡ magnitude b → ⊥) → fraction_of b % 2 ≡ 0
  inside : gap (1000 * magnitude b) (a * units_of_one) < a * units_of_one

core_of : (a t m : ℕ) → t ≤ 1140 → Placed (a * units_of_one) (1000 * 2 ^ t) m → Core a (t * 2 ^ 52 + m)
core_of a t m few p =
    let n = a * units_of_one in
    let d = 1000 * 2 ^ t in
    let some : 0 < d = omega (arith, pow_pos t) in
    let low = significand_low n d m some p in
    let high = significand_high n d m some p in
    let size : magnitude (t * 2 ^ 52 + m) ≡ m * 2 ^ t = magnitude_of t m few low high in
    let y : 1000 * magnitude (t * 2 ^ 52 + m) ≡ m * d = ap (λ (s : ℕ). 1000 * s) size ∙ scaled m t in
    record {
      plain = omega (arith, few, high);
      finite = omega (arith, few, high);
      near = λ c. subst (λ (x : ℕ). gap x n ≤ gap (1000 * magnitude c) n) (sym y) (core_near n t m (magnitude c) p (beside_of c (exponent_of c) t refl));
      even = λ c tie other.
          let is = core_even n t m (magnitude c) p (beside_of c (exponent_of c) t refl) (tie ∙ ap (λ (x : ℕ). gap x n) y) (λ e. other (e ∙ sym size)) in
          omega (arith, is);
      inside = subst (λ (x : ℕ). gap x n < n) (sym y) (inside n d m some p);
    }

core : (a : ℕ) → 0 < a → a ≤ 10 ^ 30 → Core a (magnitude_bits a)
core a some fits =
    let p = placed_at a some (omega (arith, fits)) in
    subst (Core a) (sym (magnitude_is a p.0 p.1 (omega (arith, p.2)) p.3)) (core_of a p.0 p.1 p.2 p.3)

not_negative : (b : ℕ) → b < 2 ^ 63 → is_negative b ≡ false
not_negative b plain = lt-leb (2 ^ 63) b plain

negative_is : (b : ℕ) → is_negative (2 ^ 63 + b) ≡ true
negative_is b = le-leb (2 ^ 63) (2 ^ 63 + b) (omega arith)

above_zero : (a b : ℕ) → 0 < a → Core a b → IsNearest (pos a) b
above_zero a b some k =
    let sign = not_negative b k.plain in
    let own = plain_plain a b sign in
    record {
      is = record { wide = omega (arith, k.plain); finite = k.finite };
      nearest = λ c is.
          ⊎_elim (λ negative. omega (arith, own, plain_negative a c negative, k.inside)) (λ plain. omega (arith, own, plain_plain a c plain, k.near c)) (cases_Bool (is_negative c));
      even = λ c is tie other.
          ⊎_elim (λ negative. absurd (omega (arith, own, plain_negative a c negative, k.inside, tie)))
          (λ plain. k.even c (sym (plain_plain a c plain) ∙ (tie ∙ own)) (λ size. other (same_units c b (plain ∙ sym sign) size))) (cases_Bool (is_negative c));
      unsigned = λ none. absurd (omega (arith, some, ap nat_abs none));
    }

signed_magnitude : (b : ℕ) → b < 2 ^ 63 → magnitude (2 ^ 63 + b) ≡ magnitude b
signed_magnitude b plain = magnitude_by (2 ^ 63 + b) b (omega (arith, plain)) (omega arith)

below_zero : (j b : ℕ) → Core (suc j) b → IsNearest (negsuc j) (2 ^ 63 + b)
below_zero j b k =
    let sign = negative_is b in
    let size = signed_magnitude b k.plain in
    let own = negative_negative j (2 ^ 63 + b) sign ∙ ap (λ (m : ℕ). gap (1000 * m) (suc j * units_of_one)) size in
    let exponent : exponent_of (2 ^ 63 + b) ≡ exponent_of b = omega arith in
    let fraction : fraction_of (2 ^ 63 + b) ≡ fraction_of b = omega arith in
    record {
      is = record { wide = omega (arith, k.plain); finite = subst (λ (e : ℕ). e < 2047) (sym exponent) k.finite };
      nearest = λ c is.
          ⊎_elim (λ negative. omega (arith, own, negative_negative j c negative, k.near c)) (λ plain. omega (arith, own, negative_plain j c plain, k.inside)) (cases_Bool (is_negative c));
      even = λ c is tie other.
          ⊎_elim
          (λ negative.
          ap (λ (f : ℕ). f % 2) fraction
          ∙ k.even c (sym (negative_negative j c negative) ∙ (tie ∙ own)) (λ same. other (same_units c (2 ^ 63 + b) (negative ∙ sym sign) (same ∙ sym size))))
          (λ plain. absurd (omega (arith, own, negative_plain j c plain, k.inside, tie)))
          (cases_Bool (is_negative c));
      unsigned = λ none. absurd (omega (arith, ap nat_abs none));
    }

-- ---- zero

pub no_bits : magnitude_bits 0 ≡ 0
unfolding magnitude_bits last_place half_even units_of_one
no_bits = refl

zero_gap : gap (1000 * magnitude 0) (0 * units_of_one) ≡ 0
unfolding magnitude units_of_one
zero_gap = refl

at_zero : IsNearest (pos 0) 0
at_zero =
    let own : distance (pos 0) 0 ≡ 0 = plain_plain 0 0 refl ∙ zero_gap in
    record {
      is = record { wide = omega arith; finite = omega arith };
      nearest = λ c is. omega (arith, own);
      even = λ c is tie other. refl;
      unsigned = λ e. refl;
    }

pub nearest_of : (thousandths : ℤ) → unsigned_abs thousandths ≤ 10 ^ 30 → IsNearest thousandths (double_bits thousandths)
unfolding double_bits
nearest_of (pos zero) fits = subst (IsNearest (pos 0)) (sym no_bits) at_zero
nearest_of (pos (suc k)) fits = above_zero (suc k) (magnitude_bits (suc k)) (omega arith) (core (suc k) (omega arith) fits)
nearest_of (negsuc k) fits = below_zero k (magnitude_bits (suc k)) (core (suc k) (omega arith) fits)

-- ---- the bits by the sign

pub signed_bits : (z : ℤ) → z <ℤ pos 0 → 2 ^ 63 + magnitude_bits (unsigned_abs z) ≡ double_bits z
unfolding double_bits
signed_bits (pos n) below = absurd (search (rules, below))
signed_bits (negsuc k) below = refl

pub plain_bits : (z : ℤ) → (z <ℤ pos 0 → ⊥) → magnitude_bits (unsigned_abs z) ≡ double_bits z
unfolding double_bits
plain_bits (pos n) above = refl
plain_bits (negsuc k) above = absurd (above (search rules))

-- Quotients between 2 ^ 52 and 2 ^ 53, and the double of which they are the significand.
use Rattle.std.proofs.Common.{◌≡◌, ℕ, zero, suc, ◌+◌, ◌-◌, ◌*◌, ◌/◌, ◌%◌, ◌^◌, ◌<◌, ◌≤◌, min, max, ◌⊎◌, inl, inr, ⊎_elim, Bool, true, false, Option, Some, refl, sym, subst, ◌∙◌, ap, arith, le-ltb, lt-ltb, le_of_mul-le-mul_right, mul-le-mul_right, mul-lt-mul_of_pos_right, mul_assoc, mul_right_comm, pow_pos, pow-add}
use Rattle.std.specs.List.{find, range_with_len}
use Rattle.std.specs.Option.{unwrap_or}
use Rattle.std.proofs.lemmas.Bool.{cases_lt}
use Rattle.std.proofs.lemmas.Nat.{leading_top}
use Rattle.std.specs.Int.{w128, leading_zeros}
use Rattle.std.proofs.Math.Nat.{pow-le-pow_right}
use Rattle.pickle_form.specs.Double.{IsHalfEven, half_even, holds_at, last_place, magnitude_bits, units_of_one}
use Rattle.pickle_form.proofs.HalfLemmas.{cancel, half_even_is, half_even_of}

pub record Placed (n d m : ℕ) : Type 0 where
  pub half : IsHalfEven n d m
  pub low : 2 ^ 52 * d ≤ n
  pub high : n < 2 ^ 53 * d

-- ---- multiples

pub placed_up : (n d m c : ℕ) → 0 < c → Placed n d m → Placed (n * c) (d * c) m
placed_up n d m c some p =
    let low : (2 * (m * d)) * c ≤ (2 * n + d) * c = mul-le-mul_right c p.half.low in
    let high : (2 * n) * c ≤ (2 * (m * d) + d) * c = mul-le-mul_right c p.half.high in
    let above : (2 ^ 52 * d) * c ≤ n * c = mul-le-mul_right c p.low in
    let below : n * c < (2 ^ 53 * d) * c = mul-lt-mul_of_pos_right p.high some in
    record {
      half = record {
        low = omega (arith, low);
        high = omega (arith, high);
        low_tie = λ e. p.half.low_tie (cancel (2 * (m * d)) (2 * n + d) c some (omega (arith, e)));
        high_tie = λ e. p.half.high_tie (cancel (2 * n) (2 * (m * d) + d) c some (omega (arith, e)));
      };
      low = omega (arith, above);
      high = omega (arith, below);
    }

pub placed_down : (n d m c : ℕ) → 0 < c → Placed (n * c) (d * c) m → Placed n d m
placed_down n d m c some p =
    let low : (2 * (m * d)) * c ≤ (2 * n + d) * c = omega (arith, p.half.low) in
    let high : (2 * n) * c ≤ (2 * (m * d) + d) * c = omega (arith, p.half.high) in
    let above : (2 ^ 52 * d) * c ≤ n * c = omega (arith, p.low) in
    record {
      half = record {
        low = le_of_mul-le-mul_right low some;
        high = le_of_mul-le-mul_right high some;
        low_tie = λ e. p.half.low_tie (omega (arith, ap (λ (x : ℕ). x * c) e));
        high_tie = λ e. p.half.high_tie (omega (arith, ap (λ (x : ℕ). x * c) e));
      };
      low = le_of_mul-le-mul_right above some;
      high = ⊎_elim (λ below. below) (λ more. absurd (omega (arith, p.high, mul-le-mul_right c more))) (cases_lt n (2 ^ 53 * d));
    }

-- ---- the place of the last bit

find_first : (p : ℕ → Bool) (len from n : ℕ) → p n ≡ true → ((k : ℕ) → k < n → p k ≡ false) → from ≤ n → n < from + len → find p (range_with_len from len) ≡ Some n
find_first p zero from n is not_before low high = absurd (omega (arith, low, high))
find_first p (suc len) from n is not_before low high =
    ⊎_elim
    (λ below. rw (not_before from below) (find_first p len (from + 1) n is not_before (omega (arith, below)) (omega (arith, high))))
    (λ ge.
    let here : from ≡ n = omega (arith, low, ge) in
    rw (ap p here ∙ is) (ap Some here))
    (cases_lt from n)

earlier_place : (x k t : ℕ) → k < t → 2 ^ 52 * (1000 * 2 ^ t) ≤ x → 2 ^ 53 * (1000 * 2 ^ k) ≤ x
earlier_place x k t less low =
    let grows : 2 ^ (k + 1) ≤ 2 ^ t = pow-le-pow_right (omega arith) (omega (arith, less)) in
    omega (arith, low, grows, pow-add 2 k 1)

last_place_is : (a t : ℕ) → t < 2046 → 2 ^ 52 * (1000 * 2 ^ t) ≤ a * units_of_one → a * units_of_one < 2 ^ 53 * (1000 * 2 ^ t) → last_place a ≡ t
unfolding last_place
last_place_is a t few low high =
    ap (λ (o : Option ℕ). unwrap_or o 0)
    (find_first (holds_at a) 2046 0 t (lt-ltb _ _ high) (λ k less. le-ltb _ _ (earlier_place (a * units_of_one) k t less low)) (omega arith) (omega (arith, few)))

pub magnitude_is : (a t m : ℕ) → t < 2046 → Placed (a * units_of_one) (1000 * 2 ^ t) m → magnitude_bits a ≡ t * 2 ^ 52 + m
unfolding magnitude_bits
magnitude_is a t m few p =
    ap (λ (k : ℕ). k * 2 ^ 52 + half_even (a * units_of_one) (1000 * 2 ^ k)) (last_place_is a t few p.low p.high)
    ∙ ap (λ (h : ℕ). t * 2 ^ 52 + h) (half_even_of (a * units_of_one) (1000 * 2 ^ t) m (omega (arith, pow_pos t)) p.half)

-- ---- a number that is moved up

pub shifted : (a : ℕ) → 0 < a → a < 2 ^ 128 → (2 ^ 127 ≤ a * 2 ^ leading_zeros w128 a) × (a * 2 ^ leading_zeros w128 a < 2 ^ 128) × (leading_zeros w128 a ≤ 127)
shifted a some fits =
    let up = leading_zeros w128 a in
    let top = leading_top 128 a some fits in
    let j = top.0 in
    let sum : up + suc j ≡ 128 = top.1 in
    let least : 2 ^ j * 2 ^ up ≤ a * 2 ^ up = mul-le-mul_right (2 ^ up) top.2 in
    let most : a * 2 ^ up < 2 ^ suc j * 2 ^ up = mul-lt-mul_of_pos_right top.3 (pow_pos up) in
    let lower_sum : 127 ≡ j + up = omega (arith, sum) in
    let upper_sum : 128 ≡ suc j + up = omega (arith, sum) in
    let lower : 2 ^ 127 ≡ 2 ^ j * 2 ^ up = ap (λ (k : ℕ). 2 ^ k) lower_sum ∙ pow-add 2 j up in
    let upper : 2 ^ 128 ≡ 2 ^ suc j * 2 ^ up = ap (λ (k : ℕ). 2 ^ k) upper_sum ∙ pow-add 2 (suc j) up in
    (omega (arith, least, lower), omega (arith, most, upper), omega (arith, sum))

units_16 : (2000 * 2 ^ 64) * units_of_one ≡ 1000 * 2 ^ 1139
unfolding units_of_one
units_16 = refl

units_32 : (4000 * 2 ^ 64) * units_of_one ≡ 1000 * 2 ^ 1140
unfolding units_of_one
units_32 = refl

units_some : 0 < units_of_one
unfolding units_of_one
units_some = pow_pos 1074

carried : (a up t e m total : ℕ) → t + up ≡ total → e * units_of_one ≡ 1000 * 2 ^ total → Placed (a * 2 ^ up) e m → Placed (a * units_of_one) (1000 * 2 ^ t) m
carried a up t e m total sum is p =
    let n_is : (a * 2 ^ up) * units_of_one ≡ (a * units_of_one) * 2 ^ up = mul_right_comm a (2 ^ up) units_of_one in
    let d_is : e * units_of_one ≡ (1000 * 2 ^ t) * 2 ^ up = is ∙ (ap (λ (k : ℕ). 1000 * 2 ^ k) (sym sum) ∙ (ap (λ (x : ℕ). 1000 * x) (pow-add 2 t up) ∙ sym (mul_assoc 1000 (2 ^ t) (2 ^ up)))) in
    placed_down (a * units_of_one) (1000 * 2 ^ t) m (2 ^ up) (pow_pos up)
    (subst (λ (n : ℕ). Placed n ((1000 * 2 ^ t) * 2 ^ up) m) n_is (subst (λ (d : ℕ). Placed ((a * 2 ^ up) * units_of_one) d m) d_is (placed_up (a * 2 ^ up) e m units_of_one units_some p)))

-- what stands for the part of a quotient that its whole number misses
abbrev rest_of : ℕ → ℕ
rest_of top = max (min (top / 2 ^ 64 % 125) 1) (min (top % 2 ^ 64) 1)

abbrev quotient_of : ℕ → ℕ
quotient_of top = top / 2 ^ 64 / 125

exact_or_more : (top : ℕ) → ((rest_of top ≡ 0) × (top ≡ quotient_of top * (125 * 2 ^ 64))) ⊎ ((rest_of top ≡ 1) × (quotient_of top * (125 * 2 ^ 64) < top) × (top < quotient_of top * (125 * 2 ^ 64) + 125 * 2 ^ 64))
exact_or_more top = ⊎_elim (λ below. inl (omega (arith, below))) (λ above. inr (omega (arith, above))) (cases_lt (rest_of top) 1)

exact_16 : (top q m : ℕ) → top ≡ q * (125 * 2 ^ 64) → 2 ^ 127 ≤ top → q < 2 ^ 57 → IsHalfEven (2 * q + 0) 32 m → Placed top (2000 * 2 ^ 64) m
exact_16 top q m is long few h = record {
  half = record {
    low = omega (arith, is, h.low);
    high = omega (arith, is, h.high);
    low_tie = λ e. h.low_tie (omega (arith, is, e));
    high_tie = λ e. h.high_tie (omega (arith, is, e));
  };
  low = omega (arith, long);
  high = omega (arith, is, few);
}

more_16 : (top q m : ℕ) → q * (125 * 2 ^ 64) < top → top < q * (125 * 2 ^ 64) + 125 * 2 ^ 64 → 2 ^ 127 ≤ top → q < 2 ^ 57 → IsHalfEven (2 * q + 1) 32 m → Placed top (2000 * 2 ^ 64) m
more_16 top q m above below long few h = record {
  half = record {
    low = omega (arith, above, below, h.low);
    high = omega (arith, above, below, h.high);
    low_tie = λ e. absurd (omega (arith, above, below, e));
    high_tie = λ e. absurd (omega (arith, above, below, e));
  };
  low = omega (arith, long);
  high = omega (arith, below, few);
}

exact_32 : (top q m : ℕ) → top ≡ q * (125 * 2 ^ 64) → top < 2 ^ 128 → 2 ^ 57 ≤ q → IsHalfEven (2 * q + 0) 64 m → Placed top (4000 * 2 ^ 64) m
exact_32 top q m is short many h = record {
  half = record {
    low = omega (arith, is, h.low);
    high = omega (arith, is, h.high);
    low_tie = λ e. h.low_tie (omega (arith, is, e));
    high_tie = λ e. h.high_tie (omega (arith, is, e));
  };
  low = omega (arith, is, many);
  high = omega (arith, short);
}

more_32 : (top q m : ℕ) → q * (125 * 2 ^ 64) < top → top < q * (125 * 2 ^ 64) + 125 * 2 ^ 64 → top < 2 ^ 128 → 2 ^ 57 ≤ q → IsHalfEven (2 * q + 1) 64 m → Placed top (4000 * 2 ^ 64) m
more_32 top q m above below short many h = record {
  half = record {
    low = omega (arith, above, below, h.low);
    high = omega (arith, above, below, h.high);
    low_tie = λ e. absurd (omega (arith, above, below, e));
    high_tie = λ e. absurd (omega (arith, above, below, e));
  };
  low = omega (arith, above, many);
  high = omega (arith, short);
}

placed_16 : (top m : ℕ) → 2 ^ 127 ≤ top → quotient_of top < 2 ^ 57 → IsHalfEven (2 * quotient_of top + rest_of top) 32 m → Placed top (2000 * 2 ^ 64) m
placed_16 top m long few h =
    ⊎_elim
    (λ exact. exact_16 top (quotient_of top) m exact.1 long few (subst (λ (r : ℕ). IsHalfEven (2 * quotient_of top + r) 32 m) exact.0 h))
    (λ more. more_16 top (quotient_of top) m more.1 more.2 long few (subst (λ (r : ℕ). IsHalfEven (2 * quotient_of top + r) 32 m) more.0 h))
    (exact_or_more top)

placed_32 : (top m : ℕ) → top < 2 ^ 128 → 2 ^ 57 ≤ quotient_of top → IsHalfEven (2 * quotient_of top + rest_of top) 64 m → Placed top (4000 * 2 ^ 64) m
placed_32 top m short many h =
    ⊎_elim
    (λ exact. exact_32 top (quotient_of top) m exact.1 short many (subst (λ (r : ℕ). IsHalfEven (2 * quotient_of top + r) 64 m) exact.0 h))
    (λ more. more_32 top (quotient_of top) m more.1 more.2 short many (subst (λ (r : ℕ). IsHalfEven (2 * quotient_of top + r) 64 m) more.0 h))
    (exact_or_more top)

-- the bits, where the quotient has 57 bits at most, and where it has more
pub bits_16 : (a m : ℕ) → 0 < a → a < 2 ^ 128 → (let top = a * 2 ^ leading_zeros w128 a in
    quotient_of top < 2 ^ 57 → IsHalfEven (2 * quotient_of top + rest_of top) 32 m → (1139 - leading_zeros w128 a) * 2 ^ 52 + m ≡ magnitude_bits a)
bits_16 a m some fits few h =
    let up = leading_zeros w128 a in
    let s = shifted a some fits in
    sym (magnitude_is a (1139 - up) m (omega arith) (carried a up (1139 - up) (2000 * 2 ^ 64) m 1139 (omega (arith, s.2)) units_16 (placed_16 (a * 2 ^ up) m s.0 few h)))

pub bits_32 : (a m : ℕ) → 0 < a → a < 2 ^ 128 → (let top = a * 2 ^ leading_zeros w128 a in
    2 ^ 57 ≤ quotient_of top → IsHalfEven (2 * quotient_of top + rest_of top) 64 m → (1140 - leading_zeros w128 a) * 2 ^ 52 + m ≡ magnitude_bits a)
bits_32 a m some fits many h =
    let up = leading_zeros w128 a in
    let s = shifted a some fits in
    sym (magnitude_is a (1140 - up) m (omega arith) (carried a up (1140 - up) (4000 * 2 ^ 64) m 1140 (omega (arith, s.2)) units_32 (placed_32 (a * 2 ^ up) m s.1 many h)))

-- the same with names for the parts
pub code_16 : (a up q r m : ℕ) → 0 < a → a < 2 ^ 128 → up ≡ leading_zeros w128 a → q ≡ quotient_of (a * 2 ^ leading_zeros w128 a) → r ≡ rest_of (a * 2 ^ leading_zeros w128 a)
    → q < 2 ^ 57 → IsHalfEven (2 * q + r) 32 m → (1139 - up) * 2 ^ 52 + m ≡ magnitude_bits a
code_16 a up q r m some fits up_is q_is r_is few h =
    let top = a * 2 ^ leading_zeros w128 a in
    ap (λ (u : ℕ). (1139 - u) * 2 ^ 52 + m) up_is
    ∙ bits_16 a m some fits (subst (λ (x : ℕ). x < 2 ^ 57) q_is few)
    (subst (λ (y : ℕ). IsHalfEven (2 * quotient_of top + y) 32 m) r_is (subst (λ (x : ℕ). IsHalfEven (2 * x + r) 32 m) q_is h))

pub code_32 : (a up q r m : ℕ) → 0 < a → a < 2 ^ 128 → up ≡ leading_zeros w128 a → q ≡ quotient_of (a * 2 ^ leading_zeros w128 a) → r ≡ rest_of (a * 2 ^ leading_zeros w128 a)
    → 2 ^ 57 ≤ q → IsHalfEven (2 * q + r) 64 m → (1140 - up) * 2 ^ 52 + m ≡ magnitude_bits a
code_32 a up q r m some fits up_is q_is r_is many h =
    let top = a * 2 ^ leading_zeros w128 a in
    ap (λ (u : ℕ). (1140 - u) * 2 ^ 52 + m) up_is
    ∙ bits_32 a m some fits (subst (λ (x : ℕ). 2 ^ 57 ≤ x) q_is many)
    (subst (λ (y : ℕ). IsHalfEven (2 * quotient_of top + y) 64 m) r_is (subst (λ (x : ℕ). IsHalfEven (2 * x + r) 64 m) q_is h))

-- each number has its place
abbrev pub IsPlacedAt : ℕ → Type 0
IsPlacedAt a = (t : ℕ) × (m : ℕ) × (t ≤ 1140) × Placed (a * units_of_one) (1000 * 2 ^ t) m

pub placed_at : (a : ℕ) → 0 < a → a < 2 ^ 128 → IsPlacedAt a
placed_at a some fits =
    let up = leading_zeros w128 a in
    let s = shifted a some fits in
    let top = a * 2 ^ up in
    ⊎_elim
    (λ below.
    let m = half_even top (2000 * 2 ^ 64) in
    let p : Placed top (2000 * 2 ^ 64) m = record { half = half_even_is top (2000 * 2 ^ 64) (omega arith); low = omega (arith, s.0); high = below } in
    (1139 - up, m, omega arith, carried a up (1139 - up) (2000 * 2 ^ 64) m 1139 (omega (arith, s.2)) units_16 p))
    (λ above.
    let m = half_even top (4000 * 2 ^ 64) in
    let p : Placed top (4000 * 2 ^ 64) m = record { half = half_even_is top (4000 * 2 ^ 64) (omega arith); low = omega (arith, above); high = omega (arith, s.1) } in
    (1140 - up, m, omega arith, carried a up (1140 - up) (4000 * 2 ^ 64) m 1140 (omega (arith, s.2)) units_32 p))
    (cases_lt top (2 ^ 53 * (2000 * 2 ^ 64)))

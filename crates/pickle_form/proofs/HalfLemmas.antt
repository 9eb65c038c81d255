-- The whole number nearest to a quotient.
use Rattle.std.proofs.Common.{◌≡◌, ℕ, suc, ◌+◌, ◌*◌, ◌/◌, ◌%◌, ◌<◌, ◌≤◌, ◌⊎◌, inl, inr, ⊎_elim, sym, subst, ◌∙◌, arith, div-add-mod', le-ltb, lt-ltb, le_of_mul-le-mul_right, mul-le-mul_right}
use Rattle.std.proofs.lemmas.Bool.{cases_lt, cases_order, cond-false, cond-true}
use Rattle.std.proofs.lemmas.Nat.{mod_below}
use Rattle.pickle_form.specs.Double.{IsHalfEven, half_even}

pub rounds_down : (n d q r : ℕ) → q * d + r ≡ n → 2 * r < d → IsHalfEven n d q
rounds_down n d q r is below = omega (arith, is, below)

pub rounds_up : (n d q r : ℕ) → q * d + r ≡ n → r < d → d < 2 * r → IsHalfEven n d (q + 1)
rounds_up n d q r is least above = omega (arith, is, least, above)

parity : (q : ℕ) → (q % 2 ≡ 0) ⊎ (q % 2 ≡ 1)
parity q = ⊎_elim (λ below. inl (omega (arith, below))) (λ above. inr (omega (arith, above))) (cases_lt (q % 2) 1)

even_kept : (n d q r : ℕ) → q * d + r ≡ n → 0 < d → 2 * r ≡ d → q % 2 ≡ 0 → IsHalfEven n d (q + 0)
even_kept n d q r is some tie even = omega (arith, is, some, tie, even)

odd_raised : (n d q r : ℕ) → q * d + r ≡ n → 0 < d → 2 * r ≡ d → q % 2 ≡ 1 → IsHalfEven n d (q + 1)
odd_raised n d q r is some tie odd = omega (arith, is, some, tie, odd)

pub rounds_even : (n d q r : ℕ) → q * d + r ≡ n → 0 < d → 2 * r ≡ d → IsHalfEven n d (q + q % 2)
rounds_even n d q r is some tie =
    ⊎_elim
    (λ even. subst (λ (p : ℕ). IsHalfEven n d (q + p)) (sym even) (even_kept n d q r is some tie even))
    (λ odd. subst (λ (p : ℕ). IsHalfEven n d (q + p)) (sym odd) (odd_raised n d q r is some tie odd))
    (parity q)

pub half_even_is : (n d : ℕ) → 0 < d → IsHalfEven n d (half_even n d)
unfolding half_even
half_even_is n d some =
    let q = n / d in
    let r = n % d in
    let is : q * d + r ≡ n = div-add-mod' n d in
    let least : r < d = mod_below n d some in
    ⊎_elim
    (λ below. subst (IsHalfEven n d) (sym (cond-true _ _ _ (lt-ltb (2 * r) d below))) (rounds_down n d q r is below))
    (λ other.
    ⊎_elim
    (λ above.
    subst (IsHalfEven n d) (sym (cond-false _ _ _ (le-ltb (2 * r) d other) ∙ cond-true _ _ _ (lt-ltb d (2 * r) above))) (rounds_up n d q r is least above))
    (λ more.
    subst (IsHalfEven n d) (sym (cond-false _ _ _ (le-ltb (2 * r) d other) ∙ cond-false _ _ _ (le-ltb d (2 * r) more))) (rounds_even n d q r is some (omega (arith, other, more))))
    (cases_lt d (2 * r)))
    (cases_lt (2 * r) d)

pub cancel : (a b c : ℕ) → 0 < c → a * c ≡ b * c → a ≡ b
cancel a b c some e =
    let le : a * c ≤ b * c = omega (arith, e) in
    let ge : b * c ≤ a * c = omega (arith, e) in
    let x : a ≤ b = le_of_mul-le-mul_right le some in
    let y : b ≤ a = le_of_mul-le-mul_right ge some in
    omega (arith, x, y)

not_two : (n d a b : ℕ) → 0 < d → IsHalfEven n d a → IsHalfEven n d b → a < b → ⊥
not_two n d a b some p q less =
    let apart : suc a * d ≤ b * d = mul-le-mul_right d less in
    let even_a : a % 2 ≡ 0 = p.high_tie (omega (arith, apart, p.high, q.low)) in
    let even_b : b % 2 ≡ 0 = q.low_tie (omega (arith, apart, p.high, q.low)) in
    let next : b * d ≡ suc a * d = omega (arith, apart, p.high, q.low) in
    let is : b ≡ suc a = cancel b (suc a) d some next in
    omega (arith, even_a, even_b, is)

-- only one is nearest so
pub half_even_of : (n d m : ℕ) → 0 < d → IsHalfEven n d m → half_even n d ≡ m
half_even_of n d m some p =
    let is = half_even_is n d some in
    ⊎_elim (λ same. same)
    (λ other. ⊎_elim (λ less. absurd (not_two n d (half_even n d) m some is p less)) (λ more. absurd (not_two n d m (half_even n d) some p is more)) other)
    (cases_order (half_even n d) m)

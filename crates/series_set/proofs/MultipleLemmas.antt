-- The least common multiple: the first number that both divide, and what the greatest common divisor makes of it.
use Rattle.std.proofs.Common.{◌≡◌, ℕ, zero, suc, ◌+◌, ◌*◌, ◌/◌, ◌%◌, ◌<◌, ◌≤◌, ◌==◌, Bool, true, false, ◌&&◌, find, Some, inl, inr, refl, sym, ap, subst, ◌∙◌, arith, mul-one}
use Prim.Native.Nat.{◌∣◌}
use Rattle.std.proofs.Math.Nat.{dvd-mod_iff, dvd_of_mod-eq-zero, mod-eq-zero_of_dvd, dvd_antisymm, dvd_refl, dvd-mul_left, dvd-mul_right, pos_of_dvd_of_pos, div-mul_cancel, dvd_of_mul-dvd-mul_right, mul-dvd-mul_left, mul_assoc, mul_comm, mul-div_assoc}
use Rattle.std.proofs.lemmas.Bool.{cases_lt, false≢true}
use Rattle.std.proofs.lemmas.Bool.Decides.{nat_tests}
use Rattle.std.proofs.lemmas.Nat.{mod_below, mul-le}
use Rattle.std.specs.Int.{IsGcd}
use Rattle.std.specs.List.{range_with_len}
use Rattle.series_set.specs.CommonGrid.{lcm}

-- ---- the first number that passes

record Finds (p : ℕ → Bool) (from count m : ℕ) : Type 0 where
  found : find p (range_with_len from count) ≡ Some m
  passes : p m ≡ true
  behind : from ≤ m
  first : (j : ℕ) → from ≤ j → j < m → p j ≡ false

-- a number that fails in front changes nothing
finds_later : (p : ℕ → Bool) (from count m : ℕ) → p from ≡ false → Finds p (from + 1) count m → Finds p from (suc count) m
finds_later p from count m fails more = record {
  found = rw fails more.found;
  passes = more.passes;
  behind = omega (arith, more.behind);
  first = λ j l u. elim (cases_lt from j) [ inl lt ↦ more.first j (omega arith) u | inr le ↦ (let same : j ≡ from = omega arith in ap p same ∙ fails) ];
}

later_than : (p : ℕ → Bool) (from k : ℕ) → from ≤ k → p from ≡ false → p k ≡ true → from + 1 ≤ k
later_than p from k above fails passes =
    elim (cases_lt from k) [
      | inl lt ↦ omega arith
      | inr le ↦ (let same : k ≡ from = omega arith in absurd (false≢true (sym fails ∙ ap p (sym same) ∙ passes)))
    ]

finds : (p : ℕ → Bool) (from count k : ℕ) → from ≤ k → k < from + count → p k ≡ true → (m : ℕ) × Finds p from count m
finds p from zero k above below passes = absurd (omega arith)
finds p from (suc count) k above below passes = by (p from) refl (λ later. finds p (from + 1) count k later (omega arith) passes)
  where
    by : (is : Bool) → p from ≡ is → (from + 1 ≤ k → (m : ℕ) × Finds p (from + 1) count m) → (m : ℕ) × Finds p from (suc count) m
    by true e more = (from, record { found = rw e refl; passes = e; behind = omega arith; first = λ j l u. absurd (omega arith) })
    by false e more =
        let one = more (later_than p from k above e passes) in
        (one.0, finds_later p from count one.0 e one.1)

-- ---- the least common multiple

abbrev is_common : ℕ → ℕ → ℕ → Bool
is_common a b n = n % a == 0 && n % b == 0

is_common_of : (a b n : ℕ) → a ∣ n → b ∣ n → is_common a b n ≡ true
is_common_of a b n first second = rw (mod-eq-zero_of_dvd a first, mod-eq-zero_of_dvd b second) refl

common_of : (a b n : ℕ) → is_common a b n ≡ true → (a ∣ n) × (b ∣ n)
common_of a b n is =
    let parts : (n % a ≡ 0) × (n % b ≡ 0) = grind (arith, nat_tests) in
    (dvd_of_mod-eq-zero a parts.0, dvd_of_mod-eq-zero b parts.1)

-- the least number above 0 that both divide, and every number that both divide is a multiple of it
pub record IsLcm (a b m : ℕ) : Type 0 where
  pub first : a ∣ m
  pub second : b ∣ m
  pub some : 1 ≤ m
  pub least : (n : ℕ) → 1 ≤ n → a ∣ n → b ∣ n → m ≤ n
  pub divides : (n : ℕ) → a ∣ n → b ∣ n → m ∣ n

-- what is left over a multiple is a lesser common multiple, so nothing is left
nothing_over : (a b m n : ℕ) → a ∣ m → b ∣ m → 1 ≤ m → ((k : ℕ) → 1 ≤ k → a ∣ k → b ∣ k → m ≤ k) → a ∣ n → b ∣ n → m ∣ n
nothing_over a b m n first second some least one two =
    elim (cases_lt 0 (n % m)) [
      | inl over ↦ absurd (omega (arith, mod_below n m some, least (n % m) over ((dvd-mod_iff a first).1 one) ((dvd-mod_iff b second).1 two)))
      | inr none ↦ dvd_of_mod-eq-zero m (omega arith)
    ]

lcm_found : (a b : ℕ) → 1 ≤ a → 1 ≤ b → (m : ℕ) × Finds (is_common a b) 1 (a * b) m
lcm_found a b some also =
    finds (is_common a b) 1 (a * b) (a * b) (one-le-mul some also) (omega arith) (is_common_of a b (a * b) (dvd-mul_right a b) (dvd-mul_left b a))
  where
    one-le-mul : 1 ≤ a → 1 ≤ b → 1 ≤ a * b
    one-le-mul p q = mul-le 1 1 a b p q

pub lcm_is : (a b : ℕ) → 1 ≤ a → 1 ≤ b → IsLcm a b (lcm a b)
unfolding lcm
lcm_is a b some also =
    let m = (lcm_found a b some also).0 in
    let is = (lcm_found a b some also).1 in
    let common = common_of a b m is.passes in
    let least : (n : ℕ) → 1 ≤ n → a ∣ n → b ∣ n → m ≤ n = λ n behind one two.
    elim (cases_lt n m) [ inl lt ↦ absurd (false≢true (sym (is.first n behind lt) ∙ is_common_of a b n one two)) | inr le ↦ le ] in
    rw is.found (record {
      first = common.0;
      second = common.1;
      some = is.behind;
      least = least;
      divides = λ n one two. nothing_over a b m n common.0 common.1 is.behind least one two;
    })

pub lcm_one : (a : ℕ) → 1 ≤ a → lcm 1 a ≡ a
lcm_one a some =
    let is = lcm_is 1 a (omega arith) some in
    dvd_antisymm (is.divides a (subst (λ (n : ℕ). 1 ∣ n) (mul-one a) (dvd-mul_left 1 a)) (dvd_refl a)) is.second

-- ---- by the greatest common divisor

-- both numbers divide their product over a common divisor
over_divisor : (a b g : ℕ) → g ∣ a → g ∣ b → (a ∣ a / g * b) × (b ∣ a / g * b)
over_divisor a b g first second =
    let turned : a / g * b ≡ a * (b / g) = ap (λ (n : ℕ). n) (mul_comm (a / g) b) ∙ sym (mul-div_assoc g b first) ∙ ap (λ (n : ℕ). n / g) (mul_comm b a) ∙ mul-div_assoc g a second in
    (subst (λ (n : ℕ). a ∣ n) (sym turned) (dvd-mul_right a (b / g)), dvd-mul_left b (a / g))

turn : (x y z : ℕ) → x * y * z ≡ x * z * y
turn x y z = mul_assoc x y z ∙ ap (λ (n : ℕ). x * n) (mul_comm y z) ∙ sym (mul_assoc x z y)

pub lcm_by_gcd : (a b g : ℕ) → 1 ≤ a → 1 ≤ b → IsGcd a b g → a / g * b ≡ lcm a b
lcm_by_gcd a b g some also is =
    let m = lcm a b in
    let least = lcm_is a b some also in
    let d = a * b / m in
    let whole : d * m ≡ a * b = div-mul_cancel m (least.divides (a * b) (dvd-mul_right a b) (dvd-mul_left b a)) in
    let of_a : d ∣ a = dvd_of_mul-dvd-mul_right d also (subst (λ (n : ℕ). d * b ∣ n) whole (mul-dvd-mul_left b d least.second)) in
    let of_b : d ∣ b = dvd_of_mul-dvd-mul_right d some (subst (λ (n : ℕ). d * a ∣ n) (whole ∙ mul_comm a b) (mul-dvd-mul_left a d least.first)) in
    let of_g : d ∣ g = is.2 d of_a of_b in
    let g_some : 1 ≤ g = pos_of_dvd_of_pos is.0 some in
    let product : a / g * b * g ≡ a * b = turn (a / g) b g ∙ ap (λ (n : ℕ). n * b) (div-mul_cancel g is.0) in
    let within : a / g * b ∣ m = dvd_of_mul-dvd-mul_right (a / g * b) g_some (subst (λ (n : ℕ). n ∣ m * g) (sym product) (subst (λ (n : ℕ). n ∣ m * g) (mul_comm m d ∙ whole) (mul-dvd-mul_left d m of_g))) in
    let both = over_divisor a b g is.0 is.1 in
    dvd_antisymm within (least.divides (a / g * b) both.0 both.1)

pub gcd_some : (a b g : ℕ) → 1 ≤ a → IsGcd a b g → 0 < g
gcd_some a b g some is = pos_of_dvd_of_pos is.0 some

pub quotient_some : (a b g : ℕ) → 1 ≤ a → 1 ≤ b → IsGcd a b g → 1 ≤ a / g * b
quotient_some a b g some also is = subst (λ (n : ℕ). 1 ≤ n) (sym (lcm_by_gcd a b g some also is)) (lcm_is a b some also).some

-- A number that is capped is one of seconds where the number is.
use Rattle.std.proofs.Common.{◌≡◌, ◌==◌, ◌<◌, ℕ, false, inl, inr, refl, arith}
use Rattle.std.specs.Prelude.{min}
use Rattle.std.proofs.lemmas.Bool.{cases_lt, lt-ltb}
use Rattle.std.proofs.lemmas.Bool.Decides.{eqb_tells}
use Rattle.aggregate_rules.specs.RuleTexts.{most_seconds, seconds_within}

not_zero : (n : ℕ) → 0 < n → (n == 0) ≡ false
not_zero n some = elim (eqb_tells n 0) [ inl s ↦ absurd (omega (arith, s.1)) | inr o ↦ o.0 ]

capped_within : (n : ℕ) → seconds_within (min n 18446744073709551615) ≡ seconds_within n
capped_within n = elim (cases_lt n 18446744073709551615) [
  | inl lt ↦ let e : min n 18446744073709551615 ≡ n = omega arith in rw e refl
  | inr ge ↦
      let e : min n 18446744073709551615 ≡ 18446744073709551615 = omega arith in
      rw (e, not_zero n (omega arith), lt-ltb most_seconds n (omega arith)) refl
]

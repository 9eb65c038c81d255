-- A value that may be missing, as two halves of 64 bits.
use Rattle.std.specs.Prelude.{◌≡◌, ◌≢◌, ℕ, ℤ, ◌^◌, ◌<◌, ◌==◌, Option, Some, None, if◌then◌else◌}
use Rattle.std.proofs.Common.{inl, inr, ap₂, sym}
use Rattle.std.proofs.lemmas.Bool.Decides.{eqb_tells}
use Rattle.fixed_num.specs.Halves.{halves_back, high_half, low_half, number_of_halves}
use Rattle.fixed_num.specs.Milli.{IsMilli}

-- what two halves say: a missing one has the high half of the least number of 128 bits with a sign, which no value has
abbrev pub reading_of : ℕ → ℕ → Option ℤ
reading_of high low = if high == 2 ^ 63 then None else Some (number_of_halves high low)

-- the halves of one
abbrev pub reading_high : Option ℤ → ℕ
reading_high None = 2 ^ 63
reading_high (Some value) = high_half value

abbrev pub reading_low : Option ℤ → ℕ
reading_low None = 0
reading_low (Some value) = low_half value

-- two halves that say something
pub record AreHalves (high low : ℕ) : Type 0 where
  pub few : high < 2 ^ 64
  pub small : low < 2 ^ 64
  pub missing : high ≡ 2 ^ 63 → low ≡ 0
  pub known : high ≢ 2 ^ 63 → IsMilli (number_of_halves high low)

-- what they say gives them back
pub readings_back : {R : Type 0} (make : ℕ → ℕ → R) (high low : ℕ) → AreHalves high low
    → make (reading_high (reading_of high low)) (reading_low (reading_of high low)) ≡ make high low
readings_back make high low are = elim (eqb_tells high (2 ^ 63)) [
  | inl same ↦ rw same.0 (ap₂ make (sym same.1) (sym (are.missing same.1)))
  | inr other ↦ rw other.0 (halves_back make high low are.few are.small)
]

-- A number of 128 bits with a sign as its two halves of 64 bits.
use Rattle.std.specs.Prelude.{◌≡◌, ℕ, ℤ, ◌+◌, ◌*◌, ◌/◌, ◌%◌, ◌^◌, ◌<◌, refl}
use Rattle.std.specs.Int.{w128, cast_signed, cast_unsigned}
use Rattle.std.proofs.Common.{arith, ap, ◌∙◌}
use Rattle.std.proofs.lemmas.Int.{of_z-to_z}
use Rattle.std.proofs.lemmas.Nat.{div-mul-add, mod-mul-add}

-- the number of the bits in two halves, in two's complement
abbrev pub number_of_halves : ℕ → ℕ → ℤ
number_of_halves high low = cast_signed w128 (high * 2 ^ 64 + low)

-- the halves of a number's bits
abbrev pub high_half : ℤ → ℕ
high_half number = cast_unsigned w128 number / 2 ^ 64

abbrev pub low_half : ℤ → ℕ
low_half number = cast_unsigned w128 number % 2 ^ 64

-- the number gives back its halves
pub halves_back : {R : Type 0} (make : ℕ → ℕ → R) (high low : ℕ) → high < 2 ^ 64 → low < 2 ^ 64
    → make (high_half (number_of_halves high low)) (low_half (number_of_halves high low)) ≡ make high low
halves_back make high low few small =
    let bits : cast_unsigned w128 (cast_signed w128 (high * 2 ^ 64 + low)) ≡ high * 2 ^ 64 + low = of_z-to_z w128 (high * 2 ^ 64 + low) (omega arith) in
    rw (bits, div-mul-add high (2 ^ 64) low small, mod-mul-add high (2 ^ 64) low small) refl

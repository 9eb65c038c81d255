-- The bytes of a value: what is written is read, and what is read is written again.
use Rattle.std.proofs.Common.{◌≡◌, ℕ, ℤ, ◌+◌, ◌*◌, ◌/◌, ◌%◌, ◌<◌, ◌≤◌, ◌^◌, Bool, true, false, List, length, get_or, Option, Some, None, cond, refl, ap, sym, ◌∙◌, arith, unsigned_abs, FitsSigned, rules}
use Rattle.std.specs.Prelude.{IfSome}
use Rattle.std.specs.Int.{w128, to_be_bytes, from_be_bytes, cast_signed, cast_unsigned}
use Rattle.std.proofs.lemmas.Int.{fits_signed_from_abs, of_z-to_z, to_z-of_z}
use Rattle.std.proofs.lemmas.Bool.{le-leb}
use Rattle.fixed_num.specs.Decimal.{fits}
use Rattle.fixed_num.specs.Milli.{IsMilli, milli_bytes, milli_of_bytes, value_of}
use Rattle.fixed_num.proofs.SixteenBytes.{sixteen_below, sixteen_read, sixteen_written}

-- a value has 128 bits
pub wide_fits : (value : ℤ) → IsMilli value → FitsSigned w128 value
wide_fits value few = fits_signed_from_abs w128 value (omega (arith, few))

pub value_is : (value : ℤ) → IsMilli value → value_of value ≡ Some value
unfolding value_of
value_is value few = rw (le-leb (unsigned_abs value) (10 ^ 30) few) refl

pub milli_is_read : (value : ℤ) → IsMilli value → milli_of_bytes (milli_bytes value) ≡ Some value
milli_is_read value few =
    let bits : cast_unsigned w128 value < 2 ^ 128 = search rules in
    ap (λ (n : ℕ). value_of (cast_signed w128 n)) (sixteen_read (cast_unsigned w128 value) bits)
    ∙ ap value_of (to_z-of_z w128 value (wide_fits value few)) ∙ value_is value few

pub milli_is_written : (bytes : List ℕ) → length bytes ≡ 16 → ((i : ℕ) → get_or bytes i 0 < 256) → IfSome (milli_of_bytes bytes) (λ value. milli_bytes value ≡ bytes)
unfolding value_of
milli_is_written bytes long small = by (fits number)
  where
    number : ℤ
    number = cast_signed w128 (from_be_bytes w128 bytes)

    same : milli_bytes number ≡ bytes
    same =
        ap (to_be_bytes w128) (of_z-to_z w128 (from_be_bytes w128 bytes) (sixteen_below bytes small))
        ∙ sixteen_written bytes (from_be_bytes w128 bytes) long small refl

    by : (b : Bool) → IfSome (cond b (Some number) None) (λ value. milli_bytes value ≡ bytes)
    by true = same
    by false = tt

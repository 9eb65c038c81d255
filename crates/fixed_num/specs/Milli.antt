-- A value: a whole number of thousandths, at least -10^30 and at most 10^30; and the bytes of one in a file.
use Rattle.std.specs.Prelude.{ℕ, ℤ, ◌≤◌, ◌^◌, List, Option, Some, None, if◌then◌else◌, unsigned_abs}
use Rattle.std.specs.Int.{w64, w128, to_be_bytes, from_be_bytes, cast_signed, cast_unsigned}
use Rattle.fixed_num.specs.Decimal.{fits}

-- a whole number that is a value
abbrev pub IsMilli : ℤ → Type 0
IsMilli number = unsigned_abs number ≤ 10 ^ 30

-- a number, where it is a value
unfoldable pub value_of : ℤ → Option ℤ
value_of number = if fits number then Some number else None

-- the 16 bytes of a value, big-endian in two's complement
abbrev pub milli_bytes : ℤ → List ℕ
milli_bytes value = to_be_bytes w128 (cast_unsigned w128 value)

-- the value of 16 bytes, where their number is one
abbrev pub milli_of_bytes : List ℕ → Option ℤ
milli_of_bytes bytes = value_of (cast_signed w128 (from_be_bytes w128 bytes))

-- the value of the eight bytes that one has in a file of version 1
abbrev pub old_milli_of_bytes : List ℕ → ℤ
old_milli_of_bytes bytes = cast_signed w64 (from_be_bytes w64 bytes)

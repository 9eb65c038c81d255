-- An archive of few points has no more buckets near.
use Rattle.std.proofs.Common.{ℕ, ◌/◌, ◌≤◌, arith}
use Rattle.std.specs.Prelude.{min}
use Rattle.std.proofs.lemmas.Nat.{le-div}
use Rattle.std.proofs.Math.Nat.{div-mul-le_self}

pub fewer_near : (points places : ℕ) → 1 ≤ places → min points 65536 / places ≤ 65536 / places
fewer_near points places some =
    le-div (min points 65536 / places) 65536 places some (omega (arith, div-mul-le_self (min points 65536) places))

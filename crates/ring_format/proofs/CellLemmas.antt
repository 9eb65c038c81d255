-- The bytes of a cell: what is written is read, and what is read is written again.
use Rattle.std.proofs.Common.{◌≡◌, ℕ, ℤ, ◌+◌, ◌<◌, ◌^◌, List, ◌++◌, length, get_or, take, drop, Option, Some, None, refl, ap, ap₂, ◌∙◌, inl, inr, arith, length-take, length-drop, take-append-drop}
use Rattle.std.specs.Prelude.{IfSome}
use Rattle.std.specs.Int.{w32, to_be_bytes, from_be_bytes}
use Rattle.std.proofs.lemmas.Bool.{cases_lt}
use Rattle.std.proofs.lemmas.List.{drop_at, get_or-drop, get_or-take, get_or_past, take_at}
use Rattle.std.proofs.lemmas.Nat.{be_bytes_4, from_be_bytes-to_be_bytes_4}
use Rattle.fixed_num.specs.Milli.{IsMilli, milli_bytes, milli_of_bytes}
use Rattle.fixed_num.proofs.MilliBytes.{milli_is_read, milli_is_written}
use Rattle.ring_format.specs.Cell.{cell_bytes, cell_in, cell_size}

pub cell_is_read : (bucket : ℕ) (value : ℤ) → bucket < 2 ^ 32 → IsMilli value → cell_in 2 (cell_bytes bucket value) ≡ (bucket, Some value)
cell_is_read bucket value low few =
    let front : take 4 (to_be_bytes w32 bucket ++ milli_bytes value) ≡ to_be_bytes w32 bucket = take_at (to_be_bytes w32 bucket) (milli_bytes value) 4 refl in
    let rest : drop 4 (to_be_bytes w32 bucket ++ milli_bytes value) ≡ milli_bytes value = drop_at (to_be_bytes w32 bucket) (milli_bytes value) 4 refl in
    ap₂ (λ (n : ℕ) (v : Option ℤ). (n, v))
    (ap (from_be_bytes w32) front ∙ from_be_bytes-to_be_bytes_4 bucket low)
    (ap milli_of_bytes rest ∙ milli_is_read value few)

pub cell_is_written : (bytes : List ℕ) → length bytes ≡ cell_size → ((i : ℕ) → get_or bytes i 0 < 256)
    → IfSome (cell_in 2 bytes).1 (λ value. cell_bytes (cell_in 2 bytes).0 value ≡ bytes)
cell_is_written bytes long fits =
    let four : length (take 4 bytes) ≡ 4 = omega (arith, length-take 4 bytes) in
    let sixteen : length (drop 4 bytes) ≡ 16 = omega (arith, length-drop 4 bytes) in
    let rest_fits : (i : ℕ) → get_or (drop 4 bytes) i 0 < 256 = λ i. rw get_or-drop (fits (4 + i)) in
    let front_fits : (i : ℕ) → get_or (take 4 bytes) i 0 < 256 = λ i. elim (cases_lt i 4) [
      | inl lt ↦ rw (get_or-take 4 bytes i 0 lt) (fits i)
      | inr le ↦ rw (get_or_past (take 4 bytes) i 0 (omega arith)) (omega arith)
    ] in
    by (milli_of_bytes (drop 4 bytes)) (be_bytes_4 (take 4 bytes) _ four front_fits refl) (milli_is_written (drop 4 bytes) sixteen rest_fits)
  where
    by : (value : Option ℤ) → to_be_bytes w32 (from_be_bytes w32 (take 4 bytes)) ≡ take 4 bytes → IfSome value (λ v. milli_bytes v ≡ drop 4 bytes)
        → IfSome value (λ v. cell_bytes (from_be_bytes w32 (take 4 bytes)) v ≡ bytes)
    by None front rest = tt
    by (Some v) front rest = ap₂ (λ (xs ys : List ℕ). xs ++ ys) front rest ∙ take-append-drop 4 bytes

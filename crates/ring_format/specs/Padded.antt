-- A list that is kept in 25 places, with one blank item behind its end.
use Rattle.std.specs.Prelude.{◌≡◌, ℕ, ◌-◌, ◌≤◌, List, ◌++◌, length, take, drop, refl}
use Rattle.std.proofs.Common.{arith, length-take, take-append-drop}
use Rattle.std.proofs.Math.ListN.{replicate}

-- the places give back the list and its length, and those two the places
pub padded_back : {X R : Type 0} (make : List X → ℕ → R) (blank : X) (items : List X) (count : ℕ) → count ≤ 25 → length items ≡ 25 → drop count items ≡ replicate (25 - count) blank
    → make (take count items ++ replicate (25 - length (take count items)) blank) (length (take count items)) ≡ make items count
padded_back make blank items count few long padded =
    let same : length (take count items) ≡ count = omega (arith, length-take count items) in
    rw (same, ← padded, take-append-drop count items) refl

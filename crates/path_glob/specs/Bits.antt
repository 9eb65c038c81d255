-- Sets of places as bits of words.
use Rattle.std.specs.Prelude.{◌≡◌, ℕ, zero, suc, Bool, true, false, List}
use Rattle.path_glob.specs.Positions.{bit_of}

-- a place is in both sets
abbrev pub Meet : List ℕ → List ℕ → Type 0
Meet xs ys = (p : ℕ) × (bit_of xs p ≡ true) × (bit_of ys p ≡ true)

-- places, one on
abbrev pub shifted : (ℕ → Bool) → ℕ → Bool
shifted held zero = false
shifted held (suc place) = held place

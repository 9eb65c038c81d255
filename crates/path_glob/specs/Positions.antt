-- Positions in a node: the places before its bytes, and the one behind the last.
use Rattle.std.specs.Prelude.{◌≡◌, ℕ, ◌==◌, ◌/◌, ◌%◌, ◌≤◌, ◌⊎◌, ◌↔◌, Bool, true, List, ◌++◌, length, drop, get_or}
use Rattle.std.specs.Int.{bit_at}
use Rattle.path_glob.specs.declared.positions.Positions.{Positions}

-- whether a bit is set of those that words hold, 64 to each
unfoldable pub bit_of : List ℕ → ℕ → Bool
bit_of words place = bit_at (get_or words (place / 64) 0) (place % 64) == 1

-- whether a position is one of these
abbrev pub held : Positions → ℕ → Bool
held positions place = bit_of positions.words place

-- a bit of a word is set, up to this one
abbrev pub SetBefore : ℕ → ℕ → Type 0
SetBefore word place = (i : ℕ) × (i ≤ place) × (bit_at word i ≡ 1)

-- a position up to this one is one of these
abbrev pub HeldBefore : Positions → ℕ → Type 0
HeldBefore positions place = (i : ℕ) × (i ≤ place) × (held positions i ≡ true)

-- Bytes that `covers` tells of lead from one of the old positions to this one.
abbrev pub Reached : (List ℕ → Type 0) → List ℕ → (ℕ → Bool) → ℕ → Type 0
Reached covers node old j =
    (i : ℕ) × (bytes : List ℕ) × (i ≤ length node) × (old i ≡ true)
    × (drop i node ≡ bytes ++ drop j node) × covers bytes

-- The new positions are exactly those that are reached from the old ones.
abbrev pub Leads : (List ℕ → Type 0) → List ℕ → (ℕ → Bool) → (ℕ → Bool) → Type 0
Leads covers node old new =
    (j : ℕ) → j ≤ length node → ((new j ≡ true) ↔ Reached covers node old j)

-- Those that are reached are added to what was there before.
abbrev pub Adds : (List ℕ → Type 0) → List ℕ → (ℕ → Bool) → (ℕ → Bool) → (ℕ → Bool) → Type 0
Adds covers node old before after =
    (j : ℕ) → j ≤ length node → ((after j ≡ true) ↔ ((before j ≡ true) ⊎ Reached covers node old j))

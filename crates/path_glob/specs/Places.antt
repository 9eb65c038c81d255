-- Where the bytes of a node stand.
use Rattle.std.specs.Prelude.{◌≡◌, ℕ, ◌==◌, ◌<◌, List, [], ◌∷◌, length, get_or}
use Rattle.path_glob.specs.Positions.{held}
use Rattle.path_glob.specs.declared.positions.Positions.{Positions}
use Rattle.path_glob.specs.declared.places.Places.{Places}

-- no positions
abbrev pub no_positions : Positions
no_positions = record { words = 0 ∷ 0 ∷ 0 ∷ 0 ∷ [] }

-- For each byte, these are the positions before it in the node.
abbrev pub ArePlaces : Places → List ℕ → Type 0
ArePlaces places node =
    (b j : ℕ) → b < 256 → j < length node → held (get_or places.of b no_positions) j ≡ (get_or node j 0 == b)

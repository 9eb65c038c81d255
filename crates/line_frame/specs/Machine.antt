-- A machine that takes lines one after the other, and writes a text at each.
use Rattle.std.specs.Prelude.{◌≡◌, ℕ, List, [], ◌∷◌, ◌++◌}
use Rattle.line_frame.specs.Lines.{Line}

-- From `start` over these lines the machine may come to `end`, and writes `text`.
-- `step before line after text` says what the machine may do at one line; where several things may
-- happen, several of these hold.
abbrev pub Runs : {S : Type 0} → (S → Line → S → List ℕ → Type 0)
    → S → List Line → S → List ℕ → Type 0
Runs step start [] end text = (end ≡ start) × (text ≡ [])
Runs {S} step start (line ∷ others) end text =
    (next : S) × (said : List ℕ) × (rest : List ℕ)
    × (step start line next said × (Runs step next others end rest × (text ≡ said ++ rest)))

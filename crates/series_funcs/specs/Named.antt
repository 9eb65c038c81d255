-- The names of what a call of one series gives.
use Rattle.std.specs.Prelude.{ℕ, List, [], ◌∷◌, ◌++◌}

-- `function(NAME)`, or with what stands behind the name there: a comma and the further arguments
unfoldable pub call_text : List ℕ → List ℕ → List ℕ → List ℕ
call_text function name tail = function ++ (40 ∷ (name ++ (tail ++ (41 ∷ []))))

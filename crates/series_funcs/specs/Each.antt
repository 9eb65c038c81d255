-- A call that may fail, on each of a list.
use Rattle.std.specs.Prelude.{List, [], ◌∷◌, Result, Ok, Err}
use Rattle.std.specs.Result.{result_map_both}

-- one more in front, or the first fault
abbrev pub onto : {Y E : Type 0} → Result Y E → Result (List Y) E → Result (List Y) E
onto (Ok y) ys = result_map_both (λ ys. y ∷ ys) (λ fault. fault) ys
onto (Err fault) ys = Err fault

-- what f makes of each, or the first fault
abbrev pub each_of : {X Y E : Type 0} → (X → Result Y E) → List X → Result (List Y) E
each_of f [] = Ok []
each_of f (x ∷ xs) = onto (f x) (each_of f xs)

-- The first place that passes, by the place that a search gives.
use Rattle.std.proofs.Common.{◌≡◌, ◌∙◌, ℕ, ◌<◌, ◌≤◌, Bool, not, List, length, Option, ◌⊎◌, inl, inr, refl, ap, arith, lt-ltb}
use Rattle.std.proofs.lemmas.Bool.{cases_lt, le-ltb}
use Rattle.std.proofs.lemmas.List.Sums.{prefix_len-le-length}
use Rattle.std.specs.List.{position, position_or_len}
use Rattle.std.specs.Option.{unwrap_or}

place_of : {X : Type 0} (p : X → Bool) (xs : List X) → (position_or_len p xs < length xs) ⊎ (length xs ≤ position_or_len p xs) → unwrap_or (position p xs) (length xs) ≡ position_or_len p xs
place_of p xs (inl h) = rw (lt-ltb _ _ h) refl
place_of p xs (inr h) = rw (le-ltb _ _ h) (omega (arith, prefix_len-le-length (λ x. not (p x)) xs))

pub position_or_len-from_position : {X : Type 0} (p : X → Bool) (xs : List X) (found : Option ℕ) → found ≡ position p xs → unwrap_or found (length xs) ≡ position_or_len p xs
position_or_len-from_position p xs found e = ap (λ o. unwrap_or o (length xs)) e ∙ place_of p xs (cases_lt (position_or_len p xs) (length xs))

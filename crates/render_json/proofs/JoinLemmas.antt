-- A text more behind texts that are joined.
use Rattle.std.proofs.Common.{◌≡◌, ℕ, Bool, true, false, List, [], ◌∷◌, ◌++◌, map, refl, sym, ap, ◌∙◌}
use Rattle.std.proofs.lemmas.List.{append_assoc, append-nil, map-append}
use Rattle.render_json.specs.Values.{further, joined, separator}

-- whether a list has nothing yet
abbrev pub is_none : {X : Type 0} → List X → Bool
is_none [] = true
is_none (x ∷ xs) = false

further_more : (sep text : List ℕ) (texts : List (List ℕ)) → further sep (texts ++ text ∷ []) ≡ further sep texts ++ (sep ++ text)
further_more sep text [] = ap (λ t. sep ++ t) (append-nil text)
further_more sep text (first ∷ texts) =
    ap (λ t. sep ++ (first ++ t)) (further_more sep text texts)
    ∙ sym (append_assoc sep (first ++ further sep texts) (sep ++ text) ∙ ap (λ t. sep ++ t) (append_assoc first (further sep texts) (sep ++ text)))

joined_with : (sep text : List ℕ) (texts : List (List ℕ)) → joined sep (texts ++ text ∷ []) ≡ joined sep texts ++ (separator sep (is_none texts) ++ text)
joined_with sep text [] = append-nil text
joined_with sep text (first ∷ texts) = ap (λ t. first ++ t) (further_more sep text texts) ∙ sym (append_assoc first (further sep texts) (sep ++ text))

pub joined_more : {X : Type 0} (sep before out : List ℕ) (f : X → List ℕ) (xs : List X) (x : X) (is_first : Bool)
    → out ≡ before ++ joined sep (map f xs) → is_first ≡ is_none xs → (out ++ separator sep is_first) ++ f x ≡ before ++ joined sep (map f (xs ++ x ∷ []))
joined_more {X = X} sep before out f xs x is_first so_far first =
    ap (λ o. (o ++ separator sep is_first) ++ f x) so_far
    ∙ append_assoc (before ++ joined sep (map f xs)) (separator sep is_first) (f x)
    ∙ append_assoc before (joined sep (map f xs)) (separator sep is_first ++ f x)
    ∙ ap (λ b. before ++ (joined sep (map f xs) ++ (separator sep b ++ f x))) (first ∙ of_map xs)
    ∙ ap (λ t. before ++ t) (sym (joined_with sep (f x) (map f xs)))
    ∙ ap (λ ts. before ++ joined sep ts) (sym (map-append f xs (x ∷ [])))
  where
    of_map : (ys : List X) → is_none ys ≡ is_none (map f ys)
    of_map [] = refl
    of_map (y ∷ ys) = refl

pub has_begun : {X : Type 0} (xs : List X) (x : X) → false ≡ is_none (xs ++ x ∷ [])
has_begun [] x = refl
has_begun (y ∷ ys) x = refl

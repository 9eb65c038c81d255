-- Lemmas on a list that is kept in 25 places, with one blank item behind its end.
use Rattle.std.proofs.Common.{◌≡◌, ℕ, suc, ◌+◌, ◌-◌, ◌<◌, ◌≤◌, List, ◌∷◌, length, take, drop, refl, sym, ap, ◌∙◌, arith, length-take}
use Rattle.std.proofs.Math.ListN.{replicate, set}
use Rattle.std.proofs.lemmas.List.{drop-set-lt, drop-drop}

rest_of_drop : {X : Type 0} (xs : List X) (i : ℕ) (y : X) (ys : List X) → drop i xs ≡ y ∷ ys → drop (i + 1) xs ≡ ys
rest_of_drop {X = X} xs i y ys e = sym (drop-drop 1 i xs) ∙ ap (λ (l : List X). drop 1 l) e

-- one more item takes the first blank place
pub padding_shrinks : {X : Type 0} (blank item : X) (items : List X) (count : ℕ) → count < 25 → drop count items ≡ replicate (25 - count) blank
    → drop (count + 1) (set items count item) ≡ replicate (25 - (count + 1)) blank
padding_shrinks blank item items count few padded =
    let left : 25 - count ≡ suc (25 - (count + 1)) = omega arith in
    let next : drop count items ≡ blank ∷ replicate (25 - (count + 1)) blank = padded ∙ rw left refl in
    drop-set-lt (count + 1) items count item (omega arith) ∙ rest_of_drop items count blank _ next

-- a list that is not full leaves a place
pub room_left : {X : Type 0} (items : List X) (count : ℕ) (shown : List X) → take count items ≡ shown → count ≤ 25 → length items ≡ 25 → length shown < 25 → count < 25
room_left items count shown e few long less = omega (arith, length-take count items, ap length e)

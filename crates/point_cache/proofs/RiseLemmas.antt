-- A list whose elements rise by a number is settled by which elements it has.
use Rattle.std.proofs.Common.{◌≡◌, ◌<◌, ◌≤◌, ◌⊎◌, inl, inr, ℕ, List, [], ◌∷◌, refl, sym, ap, arith}
use Rattle.std.specs.List.{AllByRecursion}
use Rattle.std.specs.List.Sorted.{IsPermutation}
use Rattle.std.proofs.lemmas.List.Elements.{All-from_recursion, recursion_from_All}
use Rattle.std.proofs.lemmas.List.Sorted.{All-permutation, IsPermutation-sym}

module _ {X : Type 0} (n : X → ℕ) where
  -- the elements have numbers above this one
  abbrev pub Above : ℕ → List X → Type 0
  Above k [] = Unit {0}
  Above k (x ∷ xs) = (k < n x) × Above k xs

  -- each element has a number below those behind it
  abbrev pub Rises : List X → Type 0
  Rises [] = Unit {0}
  Rises (x ∷ xs) = Above (n x) xs × Rises xs

  pub above_lower : (i k : ℕ) (xs : List X) → i ≤ k → Above k xs → Above i xs
  above_lower i k [] le above = tt
  above_lower i k (x ∷ xs) le above = (omega (arith, le, above.0), above_lower i k xs le above.1)

  abbrev In : List X → X → Type 0
  In [] z = ⊥
  In (x ∷ xs) z = (z ≡ x) ⊎ In xs z

  in_more : (x : X) (xs zs : List X) → AllByRecursion (In xs) zs → AllByRecursion (In (x ∷ xs)) zs
  in_more x xs [] all = tt
  in_more x xs (z ∷ zs) all = (inr all.0, in_more x xs zs all.1)

  in_itself : (xs : List X) → AllByRecursion (In xs) xs
  in_itself [] = tt
  in_itself (x ∷ xs) = (inl refl, in_more x xs xs (in_itself xs))

  members : (xs ys : List X) → IsPermutation xs ys → AllByRecursion (In xs) ys
  members xs ys moved = recursion_from_All (In xs) ys (All-permutation (In xs) xs ys moved (All-from_recursion (In xs) xs (in_itself xs)))

  above_in : (k : ℕ) (xs : List X) (z : X) → Above k xs → In xs z → k < n z
  above_in k [] z above i = absurd i
  above_in k (x ∷ xs) z above (inl e) = let same : n z ≡ n x = ap n e in omega (arith, same, above.0)
  above_in k (x ∷ xs) z above (inr i) = above_in k xs z above.1 i

  in_rest : (k : ℕ) (y : X) (ys zs : List X) → n y ≡ k → Above k zs → AllByRecursion (In (y ∷ ys)) zs → AllByRecursion (In ys) zs
  in_rest k y ys [] e above all = tt
  in_rest k y ys (z ∷ zs) e above all = (by all.0, in_rest k y ys zs e above.1 all.1)
    where
      by : (z ≡ y) ⊎ In ys z → In ys z
      by (inl same) = let number : n z ≡ n y = ap n same in absurd (omega (arith, number, e, above.0))
      by (inr i) = i

  same_head : (x y : X) (xs ys : List X) → Above (n x) xs → Above (n y) ys → (x ≡ y) ⊎ In ys x → (y ≡ x) ⊎ In xs y → x ≡ y
  same_head x y xs ys up down (inl e) there = e
  same_head x y xs ys up down (inr i) (inl e) = sym e
  same_head x y xs ys up down (inr i) (inr j) = absurd (omega (arith, above_in (n x) xs y up j, above_in (n y) ys x down i))

  by_members : (xs ys : List X) → Rises xs → Rises ys → AllByRecursion (In ys) xs → AllByRecursion (In xs) ys → xs ≡ ys
  by_members [] [] up down here there = refl
  by_members [] (y ∷ ys) up down here there = absurd there.0
  by_members (x ∷ xs) [] up down here there = absurd here.0
  by_members (x ∷ xs) (y ∷ ys) up down here there =
      let same : x ≡ y = same_head x y xs ys up.0 down.0 here.0 there.0 in
      let number : n x ≡ n y = ap n same in
      let rest = by_members xs ys up.1 down.1 (in_rest (n x) y ys xs (sym number) up.0 here.1) (in_rest (n y) x xs ys number down.0 there.1) in
      λ j. same j ∷ rest j

  -- two orders of the same elements that both rise are one
  pub rising_once : (xs ys : List X) → Rises xs → Rises ys → IsPermutation xs ys → xs ≡ ys
  rising_once xs ys up down moved = by_members xs ys up down (members ys xs (IsPermutation-sym xs ys moved)) (members xs ys moved)

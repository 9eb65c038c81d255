-- Two stable sorts of one list are one list.
use Rattle.std.proofs.Common.{◌≡◌, ◌∙◌, ℕ, suc, ◌≤◌, ◌<◌, Bool, true, false, cond, not, ◌&&◌, List, [], ◌∷◌, drop, get_or, length, refl, sym, ap, subst, arith}
use Rattle.std.specs.Prelude.{⊤, filter}
use Rattle.std.specs.Cmp.{IsStrictWeakOrder}
use Rattle.std.specs.List.Sorted.{IsSortedBy, IsStableBy, ties}
use Rattle.std.proofs.lemmas.List.Sorted.{sorted_far}

-- ---- lists

pub head_same : {X : Type 0} (x y : X) (xs ys : List X) → x ∷ xs ≡ y ∷ ys → x ≡ y
head_same x y xs ys same = ap (λ l. get_or l 0 x) same

pub tail_same : {X : Type 0} (x y : X) (xs ys : List X) → x ∷ xs ≡ y ∷ ys → xs ≡ ys
tail_same x y xs ys same = ap (drop 1) same

module _ {X : Type 0} (p : X → Bool) where
  kept : (x : X) (xs : List X) → p x ≡ true → filter p (x ∷ xs) ≡ x ∷ filter p xs
  kept x xs e = ap (λ b. cond b (x ∷ filter p xs) (filter p xs)) e

  left_out : (x : X) (xs : List X) → p x ≡ false → filter p (x ∷ xs) ≡ filter p xs
  left_out x xs e = ap (λ b. cond b (x ∷ filter p xs) (filter p xs)) e

  -- what stays behind one first element
  same_behind : (x y : X) (xs ys : List X) → x ≡ y → filter p (x ∷ xs) ≡ filter p (y ∷ ys) → filter p xs ≡ filter p ys
  same_behind x y xs ys first same = by (p x) refl
    where
      by : (b : Bool) → p x ≡ b → filter p xs ≡ filter p ys
      by true e = tail_same x y (filter p xs) (filter p ys) (sym (kept x xs e) ∙ (same ∙ kept y ys (ap p (sym first) ∙ e)))
      by false e = sym (left_out x xs e) ∙ (same ∙ left_out y ys (ap p (sym first) ∙ e))

-- ---- sorted lists

module _ {X : Type 0} (lt : X → X → Bool) (order : IsStrictWeakOrder lt) where
  -- none of these is below the first
  abbrev Above : X → List X → Type 0
  Above x [] = ⊤
  Above x (y ∷ ys) = (lt y x ≡ false) × Above x ys

  abbrev Rises : List X → Type 0
  Rises [] = ⊤
  Rises (x ∷ xs) = Above x xs × Rises xs

  above_of : (x : X) (xs : List X) → ((k : ℕ) → k < length xs → lt (get_or xs k x) x ≡ false) → Above x xs
  above_of x [] h = tt
  above_of x (y ∷ ys) h = (h 0 (omega arith), above_of x ys (λ k p. h (suc k) (omega arith)))

  rises_of : (xs : List X) → ((i j : ℕ) (d : X) → i ≤ j → j < length xs → lt (get_or xs j d) (get_or xs i d) ≡ false) → Rises xs
  rises_of [] h = tt
  rises_of (x ∷ xs) h = (above_of x xs (λ k p. h 0 (suc k) x (omega arith) (omega arith)), rises_of xs (λ i j d p q. h (suc i) (suc j) d (omega arith) (omega arith)))

  above_if : (x y : X) (ys : List X) (b : Bool) → lt y x ≡ false → Above x ys → Above x (cond b (y ∷ ys) ys)
  above_if x y ys true first others = (first, others)
  above_if x y ys false first others = others

  above_kept : (p : X → Bool) (x : X) (xs : List X) → Above x xs → Above x (filter p xs)
  above_kept p x [] above = tt
  above_kept p x (y ∷ ys) above = above_if x y (filter p ys) (p y) above.0 (above_kept p x ys above.1)

  not_below_itself : (x : X) → lt x x ≡ false
  not_below_itself x = by (lt x x) refl
    where
      by : (b : Bool) → lt x x ≡ b → lt x x ≡ false
      by true e = order.one_way x x e
      by false e = e

  tied : (x y : X) → lt x y ≡ false → lt y x ≡ false → ties lt x y ≡ true
  tied x y a b = λ i. not (a i) && not (b i)

  tied_itself : (x : X) → ties lt x x ≡ true
  tied_itself x = tied x x (not_below_itself x) (not_below_itself x)

  -- the first of one list stands in the other, whose first is below none of its elements
  first_not_below : (x y : X) (xs ys : List X) → filter (ties lt x) (x ∷ xs) ≡ filter (ties lt x) (y ∷ ys) → Above y ys → lt x y ≡ false
  first_not_below x y xs ys same above =
      let has : filter (ties lt x) (y ∷ ys) ≡ x ∷ filter (ties lt x) xs = sym same ∙ kept (ties lt x) x xs (tied_itself x) in
      (subst (Above y) has (above_kept (ties lt x) y (y ∷ ys) (not_below_itself y, above))).0

  one_list : (xs ys : List X) → Rises xs → Rises ys → ((x : X) → filter (ties lt x) xs ≡ filter (ties lt x) ys) → xs ≡ ys
  one_list [] [] one other same = refl
  one_list [] (y ∷ ys) one other same = absurd (omega (arith, ap length (same y ∙ kept (ties lt y) y ys (tied_itself y))))
  one_list (x ∷ xs) [] one other same = absurd (omega (arith, ap length (sym (same x) ∙ kept (ties lt x) x xs (tied_itself x))))
  one_list (x ∷ xs) (y ∷ ys) one other same =
      let a = first_not_below x y xs ys (same x) other.0 in
      let b = first_not_below y x ys xs (sym (same y)) one.0 in
      let first = head_same x y (filter (ties lt x) xs) (filter (ties lt x) ys)
      (sym (kept (ties lt x) x xs (tied_itself x)) ∙ (same x ∙ kept (ties lt x) y ys (tied x y a b))) in
      let others = one_list xs ys one.1 other.1 (λ z. same_behind (ties lt z) x y xs ys first (same z)) in
      λ i. first i ∷ others i

  pub sorted_once : (set xs ys : List X) → IsSortedBy lt xs → IsStableBy lt set xs → IsSortedBy lt ys → IsStableBy lt set ys → xs ≡ ys
  sorted_once set xs ys one stable other also =
      one_list xs ys (rises_of xs (sorted_far lt order xs one)) (rises_of ys (sorted_far lt order ys other)) (λ x. stable x ∙ sym (also x))

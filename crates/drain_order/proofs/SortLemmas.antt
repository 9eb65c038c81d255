-- Two lists of the same elements in one order have the same keys, where elements that tie have.
use Rattle.std.proofs.Common.{◌≡◌, ◌∙◌, ◌<◌, ◌+◌, ℕ, false, cond, List, [], ◌∷◌, length, get_or, map, suc, refl, sym, ap, arith, true≢false}
use Rattle.std.specs.Cmp.{IsTotalOrder}
use Rattle.std.specs.List.{sum_by}
use Rattle.std.specs.List.Sorted.{IsPermutation, IsSorted}
use Rattle.std.specs.declared.cmp.Ordering.{Ordering}
use Rattle.std.specs.declared.cmp.Ordering.TheVariants.{Equal, Greater, Less}
use Rattle.std.specs.Ordering.{is_eq, is_lt, ordering_reverse}
use Rattle.std.proofs.lemmas.Cmp.{alike_right, tied_itself}
use Rattle.std.proofs.lemmas.List.Sorted.{ranks_by, sorted_far, sum_by-IsPermutation}
use Rattle.std.proofs.lemmas.List.Sums.{sum_by-cons}

abbrev one_if_equal : Ordering → ℕ
one_if_equal r = cond (is_eq r) 1 0

module _ {X : Type 0} (R : X → X → Ordering) (o : IsTotalOrder R) where
  -- none of the elements goes before z
  abbrev NoneBefore : X → List X → Type 0
  NoneBefore z [] = Unit {0}
  NoneBefore z (x ∷ xs) = (is_lt (R x z) ≡ false) × NoneBefore z xs

  -- each element is followed by none that goes before it
  abbrev Ascends : List X → Type 0
  Ascends [] = Unit {0}
  Ascends (x ∷ xs) = NoneBefore x xs × Ascends xs

  none_before : (z : X) (xs : List X) → ((k : ℕ) (d : X) → k < length xs → is_lt (R (get_or xs k d) z) ≡ false) → NoneBefore z xs
  none_before z [] all = tt
  none_before z (x ∷ xs) all = (all 0 x (omega arith), none_before z xs (λ k d lt. all (suc k) d (omega arith)))

  tail_sorted : (x : X) (xs : List X) → IsSorted R (x ∷ xs) → IsSorted R xs
  tail_sorted x xs up k d low high = let e : suc k + 1 ≡ suc (k + 1) = omega arith in rw e at (up (suc k) d (omega arith) (omega arith))

  ascends : (xs : List X) → IsSorted R xs → Ascends xs
  ascends [] up = tt
  ascends (x ∷ xs) up =
      (none_before x xs (λ k d lt. sorted_far (λ a b. is_lt (R a b)) (ranks_by o (λ (y : X). y)) (x ∷ xs) up 0 (suc k) d (omega arith) (omega arith)), ascends xs (tail_sorted x xs up))

  -- how many elements tie with z
  abbrev ties : X → List X → ℕ
  ties z xs = sum_by (λ x. one_if_equal (R z x)) xs

  ties_cons : (z x : X) (xs : List X) → ties z (x ∷ xs) ≡ one_if_equal (R z x) + ties z xs
  ties_cons z x xs = sum_by-cons (λ x. one_if_equal (R z x)) x xs

  -- what ties with an element before which none of the others goes, does not go before it either
  tied_not_before : (z y : X) (ys : List X) → NoneBefore y ys → 0 < ties z ys → is_lt (R z y) ≡ false
  tied_not_before z y [] none some = absurd (omega (arith, some))
  tied_not_before z y (x ∷ xs) none some = by (R z x) refl (ties_cons z x xs) (tied_not_before z y xs none.1)
    where
      by : (a : Ordering) → R z x ≡ a → ties z (x ∷ xs) ≡ one_if_equal a + ties z xs → (0 < ties z xs → is_lt (R z y) ≡ false) → is_lt (R z y) ≡ false
      by Less e count more = more (omega (arith, some, count))
      by Equal e count more = ap is_lt (o.congr z x y e) ∙ none.0
      by Greater e count more = more (omega (arith, some, count))

  pub not_before_both : (x y : X) → is_lt (R x y) ≡ false → is_lt (R y x) ≡ false → R x y ≡ Equal
  not_before_both x y a b = by (R x y) refl
    where
      by : (r : Ordering) → R x y ≡ r → R x y ≡ Equal
      by Less e = absurd (true≢false (ap is_lt (sym e) ∙ a))
      by Equal e = e
      by Greater e = absurd (true≢false (sym (ap is_lt (o.antisymm y x ∙ ap ordering_reverse e)) ∙ b))

  ties_itself : (x : X) (xs : List X) → ties x (x ∷ xs) ≡ 1 + ties x xs
  ties_itself x xs = ties_cons x x xs ∙ ap (λ r. one_if_equal r + ties x xs) (tied_itself o x)

  keys_by_ties : {Y : Type 0} (key : X → Y) → ((a b : X) → R a b ≡ Equal → key a ≡ key b) → (xs ys : List X) → Ascends xs → Ascends ys
      → ((z : X) → ties z xs ≡ ties z ys) → map key xs ≡ map key ys
  keys_by_ties key exact [] [] up down same = refl
  keys_by_ties key exact [] (y ∷ ys) up down same = let e : 0 ≡ ties y (y ∷ ys) = same y in absurd (omega (arith, e, ties_itself y ys))
  keys_by_ties key exact (x ∷ xs) [] up down same = let e : ties x (x ∷ xs) ≡ 0 = same x in absurd (omega (arith, e, ties_itself x xs))
  keys_by_ties key exact (x ∷ xs) (y ∷ ys) up down same =
      let in_second : 0 < ties x (y ∷ ys) = omega (arith, same x, ties_itself x xs) in
      let in_first : 0 < ties y (x ∷ xs) = omega (arith, same y, ties_itself y ys) in
      let second : is_lt (R x y) ≡ false = tied_not_before x y (y ∷ ys) (ap is_lt (tied_itself o y), down.0) in_second in
      let first : is_lt (R y x) ≡ false = tied_not_before y x (x ∷ xs) (ap is_lt (tied_itself o x), up.0) in_first in
      let tied : R x y ≡ Equal = not_before_both x y second first in
      let rest : (z : X) → ties z xs ≡ ties z ys = λ z.
      let heads = ap one_if_equal (alike_right o x y z tied) in
      omega (arith, same z, ties_cons z x xs, ties_cons z y ys, heads) in
      (λ j. exact x y tied j ∷ keys_by_ties key exact xs ys up.1 down.1 rest j)

  pub same_keys : {Y : Type 0} (key : X → Y) → ((a b : X) → R a b ≡ Equal → key a ≡ key b) → (xs ys : List X) → IsSorted R xs → IsSorted R ys
      → IsPermutation xs ys → map key xs ≡ map key ys
  same_keys key exact xs ys up down moved =
      keys_by_ties key exact xs ys (ascends xs up) (ascends ys down) (λ z. sym (sum_by-IsPermutation (λ x. one_if_equal (R z x)) xs ys moved))

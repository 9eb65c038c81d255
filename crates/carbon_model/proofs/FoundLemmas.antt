-- Lists of paths in byte order, each once, with the same members are one.
use Rattle.std.proofs.Common.{◌≡◌, inl, inr, ◌⊎◌, ◌∙◌, ℕ, zero, suc, List, [], ◌∷◌, refl, sym, ap, subst, arith, true≢false}
use Rattle.std.specs.Prelude.{Contains}
use Rattle.std.specs.List.Sorted.{IsStrictlySortedBy}
use Rattle.std.specs.declared.cmp.Ordering.{Ordering}
use Rattle.std.specs.declared.cmp.Ordering.TheVariants.{Equal, Greater, Less}
use Rattle.std.specs.Ordering.{is_eq, is_lt, nat_cmp, ordering_reverse}
use Rattle.std.specs.Cmp.Lexicographic.{slice_cmp}
use Rattle.std.proofs.lemmas.Cmp.{nat_list_cmp_total}
use Rattle.std.proofs.lemmas.List.Elements.{All-contains}
use Rattle.std.proofs.lemmas.Map.Keys.{sorted_tail}
use Rattle.std.proofs.lemmas.Map.Text.{is_eq-slice_cmp}
use Rattle.std.proofs.lemmas.Map.Views.{All-after_first}
use Rattle.std.proofs.lemmas.Slice.Eq.{bytes_eq-Decides}

less_is_greater : Less ≡ Greater → ⊥
less_is_greater e = true≢false (ap is_lt e)

-- two paths are not each below the other, so no path is below itself
one_way : (x y : List ℕ) → slice_cmp nat_cmp x y ≡ Less → slice_cmp nat_cmp y x ≡ Less → ⊥
one_way x y there back = less_is_greater (sym there ∙ nat_list_cmp_total.antisymm x y ∙ ap ordering_reverse back)

not_below_itself : (x y : List ℕ) → slice_cmp nat_cmp x y ≡ Less → x ≡ y → ⊥
not_below_itself x y below same = one_way x x (subst (λ (p : List ℕ). slice_cmp nat_cmp x p ≡ Less) (sym same) below) (subst (λ (p : List ℕ). slice_cmp nat_cmp x p ≡ Less) (sym same) below)

behind_first : (x : List ℕ) (xs : List (List ℕ)) (p : List ℕ) → Contains xs p → Contains (x ∷ xs) p
behind_first x xs p c = (suc c.0, omega (arith, c.1), c.2)

first_or_behind : (x : List ℕ) (xs : List (List ℕ)) (p : List ℕ) → Contains (x ∷ xs) p → (x ≡ p) ⊎ Contains xs p
first_or_behind x xs p (zero, l, e) = inl e
first_or_behind x xs p (suc k, l, e) = inr (k, omega arith, e)

below_those_behind : (x : List ℕ) (xs : List (List ℕ)) (p : List ℕ) → IsStrictlySortedBy (slice_cmp nat_cmp) (x ∷ xs) → Contains xs p → slice_cmp nat_cmp x p ≡ Less
below_those_behind x xs p sorted c = All-contains (λ (y : List ℕ). slice_cmp nat_cmp x y ≡ Less) xs p (All-after_first (slice_cmp nat_cmp) x xs sorted) c

-- no member is below the first
none_below_first : (y : List ℕ) (ys : List (List ℕ)) (x : List ℕ) → IsStrictlySortedBy (slice_cmp nat_cmp) (y ∷ ys) → Contains (y ∷ ys) x → slice_cmp nat_cmp x y ≡ Less → ⊥
none_below_first y ys x sorted c below = elim (first_or_behind y ys x c) [
  | inl same ↦ not_below_itself x y below (sym same)
  | inr behind ↦ one_way x y below (below_those_behind y ys x sorted behind)
]

-- neither is below the other: they are one
neither_below : (x y : List ℕ) → (slice_cmp nat_cmp x y ≡ Less → ⊥) → (slice_cmp nat_cmp y x ≡ Less → ⊥) → x ≡ y
neither_below x y no_less no_greater = by (slice_cmp nat_cmp x y) refl
  where
    by : (o : Ordering) → slice_cmp nat_cmp x y ≡ o → x ≡ y
    by Less e = absurd (no_less e)
    by Equal e = (bytes_eq-Decides x y).0 (sym (is_eq-slice_cmp x y) ∙ ap is_eq e)
    by Greater e = absurd (no_greater (nat_list_cmp_total.antisymm y x ∙ ap ordering_reverse e))

-- the members behind the first ones, where those are one
also_behind : (x : List ℕ) (xs : List (List ℕ)) (y : List ℕ) (ys : List (List ℕ)) (p : List ℕ) → IsStrictlySortedBy (slice_cmp nat_cmp) (x ∷ xs) → x ≡ y
    → (Contains (x ∷ xs) p → Contains (y ∷ ys) p) → Contains xs p → Contains ys p
also_behind x xs y ys p sorted same also c = elim (first_or_behind y ys p (also (behind_first x xs p c))) [
  | inl first ↦ absurd (not_below_itself x p (below_those_behind x xs p sorted c) (same ∙ first))
  | inr behind ↦ behind
]

no_member : (p : List ℕ) → Contains [] p → ⊥
no_member p c = omega (arith, c.1)

pub same_members : (xs ys : List (List ℕ)) → IsStrictlySortedBy (slice_cmp nat_cmp) xs → IsStrictlySortedBy (slice_cmp nat_cmp) ys
    → ((p : List ℕ) → Contains xs p → Contains ys p) → ((p : List ℕ) → Contains ys p → Contains xs p) → xs ≡ ys
same_members [] [] sorted_x sorted_y there back = refl
same_members [] (y ∷ ys) sorted_x sorted_y there back = absurd (no_member y (back y (0, omega arith, refl)))
same_members (x ∷ xs) [] sorted_x sorted_y there back = absurd (no_member x (there x (0, omega arith, refl)))
same_members (x ∷ xs) (y ∷ ys) sorted_x sorted_y there back =
    let same = neither_below x y (none_below_first y ys x sorted_y (there x (0, omega arith, refl))) (none_below_first x xs y sorted_x (back y (0, omega arith, refl))) in
    let others = same_members xs ys (sorted_tail (slice_cmp nat_cmp) x xs sorted_x) (sorted_tail (slice_cmp nat_cmp) y ys sorted_y)
    (λ p. also_behind x xs y ys p sorted_x same (there p)) (λ p. also_behind y ys x xs p sorted_y (sym same) (back p)) in
    ap (λ (ps : List (List ℕ)). x ∷ ps) others ∙ ap (λ (p : List ℕ). p ∷ ys) same

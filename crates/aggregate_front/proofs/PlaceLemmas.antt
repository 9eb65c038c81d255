-- The place of an output that is found by a guess.
use Rattle.std.proofs.Common.{◌≡◌, ◌∙◌, ◌+◌, ℕ, zero, suc, true, false, cond, not, nat_lt, [], ◌∷◌, Some, length, slice_get, refl, sym, ap, subst, arith, rules, lt-ltb}
use Rattle.std.proofs.lemmas.List.{length-map}
use Rattle.std.proofs.lemmas.Option.{slice_get_within}
use Rattle.std.specs.Cmp.{IsEquivalence}
use Rattle.std.specs.Cmp.Rules.{comparing}
use Rattle.std.specs.List.{AllByRecursion, IsDistinct, position, position_or_len}
use Rattle.std.specs.Map.{keys_of}
use Rattle.aggregate_front.specs.declared.gathered.Gathered.{Gathered}
use Rattle.aggregate_front.specs.declared.hit.OutputKey.{OutputKey}
use Rattle.aggregate_front.specs.Emitting.{Outputs, is_key}

key_laws : IsEquivalence is_key
key_laws = search (comparing, rules) depth 9

other_at : (k : OutputKey) (es : Outputs) (i : ℕ) (other : OutputKey) (g : Gathered) → AllByRecursion (λ y. is_key k y ≡ false) (keys_of es)
    → slice_get es i ≡ Some (other, g) → is_key k other ≡ false
other_at k [] i other g all at = absurd cc
other_at k (e ∷ es) zero other g all at = let same : e.0 ≡ other = cc in subst (λ y. is_key k y ≡ false) same all.0
other_at k (e ∷ es) (suc i) other g all at = other_at k es i other g all.1 at

one_plus : (n : ℕ) → 1 + n ≡ suc n
one_plus n = omega arith

or_len_at : (es : Outputs) (i : ℕ) (key other : OutputKey) (g : Gathered) → IsDistinct is_key (keys_of es) → slice_get es i ≡ Some (other, g)
    → is_key key other ≡ true → position_or_len (is_key key) (keys_of es) ≡ i
unfolding IsDistinct
or_len_at [] i key other g distinct at same = absurd cc
or_len_at (e ∷ es) zero key other g distinct at same =
    let is : e.0 ≡ other = cc in
    let first : is_key key e.0 ≡ true = subst (λ y. is_key key y ≡ true) (sym is) same in
    ap (λ b. cond (not b) (1 + position_or_len (is_key key) (keys_of es)) 0) first
or_len_at (e ∷ es) (suc i) key other g distinct at same =
    let before : is_key key e.0 ≡ false = key_laws.congr key other e.0 same ∙ key_laws.symm other e.0 ∙ other_at e.0 es i other g distinct.0 at in
    ap (λ b. cond (not b) (1 + position_or_len (is_key key) (keys_of es)) 0) before
    ∙ ap (λ n. 1 + n) (or_len_at es i key other g distinct.1 at same)
    ∙ one_plus i

-- an output that stands at a place is found there
pub stands_at : (es : Outputs) (i : ℕ) (key other : OutputKey) (g : Gathered) → IsDistinct is_key (keys_of es) → slice_get es i ≡ Some (other, g)
    → is_key key other ≡ true → position (is_key key) (keys_of es) ≡ Some i
stands_at es i key other g distinct at same =
    let within : nat_lt i (length (keys_of es)) ≡ true = lt-ltb _ _ (omega (arith, slice_get_within es i (other, g) at, length-map es (λ (e : OutputKey × Gathered). e.0))) in
    rw (or_len_at es i key other g distinct at same, within) refl

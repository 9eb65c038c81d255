-- Places of lists.
use Rattle.std.proofs.Common.{◌≡◌, ℕ, zero, suc, ◌<◌, List, [], ◌∷◌, ◌++◌, get_or, length, Some, None, refl, sym, ap, arith}
use Rattle.std.specs.Prelude.{drop, slice_get}
use Rattle.std.proofs.lemmas.Option.{none-some}

pub first_taken : {X : Type 0} (xs rest : List X) (x : X) → 0 < length xs → x ≡ get_or xs 0 x → rest ≡ drop 1 xs → xs ≡ x ∷ rest
first_taken [] rest x some first rests = absurd (omega (arith, some))
first_taken (y ∷ xs) rest x some first rests = cc (first, rests)

-- what stands at the end of what is dropped
pub first_left : {X : Type 0} (k : ℕ) (xs rest : List X) (x : X) → x ∷ rest ≡ drop k xs → (slice_get xs k ≡ Some x) × (rest ≡ drop (suc k) xs)
first_left zero xs rest x e = (ap (λ l. slice_get l 0) (sym e), ap (drop 1) e)
first_left (suc k) [] rest x e = absurd cc
first_left (suc k) (y ∷ xs) rest x e = first_left k xs rest x e

pub pushed_here : {X : Type 0} (xs : List X) (y : X) → slice_get (xs ++ y ∷ []) (length xs) ≡ Some y
pushed_here [] y = refl
pushed_here (x ∷ xs) y = pushed_here xs y

pub pushed_other : {X : Type 0} (xs : List X) (y : X) (k : ℕ) → (k ≡ length xs → ⊥) → slice_get (xs ++ y ∷ []) k ≡ slice_get xs k
pushed_other [] y zero other = absurd (other refl)
pushed_other [] y (suc k) other = refl
pushed_other (x ∷ xs) y zero other = refl
pushed_other (x ∷ xs) y (suc k) other = pushed_other xs y k (λ e. other (ap suc e))

pub length_pushed : {X : Type 0} (xs : List X) (y : X) → length (xs ++ y ∷ []) ≡ suc (length xs)
length_pushed [] y = refl
length_pushed (x ∷ xs) y = ap suc (length_pushed xs y)

-- lists of one length have the same places
pub none_together : {X Y : Type 0} (xs : List X) (ys : List Y) (k : ℕ) → length xs ≡ length ys → slice_get xs k ≡ None → slice_get ys k ≡ None
none_together xs [] k same none = refl
none_together [] (y ∷ ys) k same none = absurd (omega (arith, same))
none_together (x ∷ xs) (y ∷ ys) zero same none = absurd (none-some x (sym none))
none_together (x ∷ xs) (y ∷ ys) (suc k) same none = none_together xs ys k (omega (arith, same)) none

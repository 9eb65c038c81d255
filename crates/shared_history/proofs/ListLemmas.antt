-- Beginnings of lists, filters and the words of the table.
use Rattle.std.proofs.Common.{◌<◌, not, ◌≡◌, ℕ, zero, suc, ◌+◌, ◌%◌, ◌^◌, ◌≤◌, ◌≢◌, ◌⊎◌, Bool, true, false, cond, List, [], ◌∷◌, ◌++◌, length, get_or, set, refl, ap, sym, subst, ◌∙◌, inl, inr, ⊎_elim, arith, append_assoc, length-append, map, eq-eqb, ne_eqb, eqb}
use Rattle.std.specs.Prelude.{filter, Some, slice_get}
use Rattle.std.proofs.lemmas.List.Elements.{filter-append}
use Rattle.std.proofs.lemmas.List.{append-nil}
use Rattle.std.proofs.lemmas.List.Filters.{length-filter_both}
use mathlib.Core.List.{IsPrefix}
use mathlib.Core.Option.{some, some-injective, some-ne-none}
use lib.ListN.{get_elem?}

pub prefix_nil : {A : Type 0} (xs : List A) → IsPrefix [] xs
prefix_nil xs = (xs, refl)

pub prefix_self : {A : Type 0} (xs : List A) → IsPrefix xs xs
prefix_self xs = ([], append-nil xs)

pub prefix_more : {A : Type 0} (xs ys zs : List A) → IsPrefix xs ys → IsPrefix xs (ys ++ zs)
prefix_more xs ys zs p = (p.0 ++ zs, sym (append_assoc xs p.0 zs) ∙ ap (λ w. w ++ zs) p.1)

pub prefix_shorter : {A : Type 0} (xs ys zs : List A) → IsPrefix xs zs → IsPrefix ys zs → length xs ≤ length ys → IsPrefix xs ys
prefix_shorter [] ys zs p q le = (ys, refl)
prefix_shorter (x ∷ xs) [] zs p q le = absurd (omega arith)
prefix_shorter (x ∷ xs) (y ∷ ys) [] p q le = absurd (cc (p.1))
prefix_shorter (x ∷ xs) (y ∷ ys) (z ∷ zs) p q le =
    let heads : x ≡ y = cc (p.1, q.1) in
    let rest = prefix_shorter xs ys zs (p.0, cc (p.1)) (q.0, cc (q.1)) (omega arith) in
    (rest.0, cc (heads, rest.1))

pub prefix_length : {A : Type 0} (xs ys : List A) → IsPrefix xs ys → length xs ≤ length ys
prefix_length xs ys p = omega (arith, sym (ap length p.1) ∙ length-append xs p.0)

-- a beginning as long as the whole is the whole
pub prefix_whole : {A : Type 0} (xs ys : List A) → IsPrefix xs ys → length ys ≤ length xs → xs ≡ ys
prefix_whole [] [] p le = refl
prefix_whole [] (y ∷ ys) p le = absurd (omega arith)
prefix_whole (x ∷ xs) [] p le = absurd (cc (p.1))
prefix_whole (x ∷ xs) (y ∷ ys) p le =
    let rest = prefix_whole xs ys (p.0, cc (p.1)) (omega arith) in cc (p.1, rest)

pub none_owed : {A : Type 0} (xs : List A) (d : List A) → [] ≡ xs ++ d → (xs ≡ []) × (d ≡ [])
none_owed [] d e = (refl, sym e)
none_owed (x ∷ xs) d e = absurd cc

pub map_same : {A : Type 0} (xs : List A) → map (λ x. x) xs ≡ xs
map_same [] = refl
map_same (x ∷ xs) = ap (λ ys. x ∷ ys) (map_same xs)

-- what a list has none of its front has none of
pub none_of : {A : Type 0} (f : A → Bool) (xs ys : List A) → filter f (xs ++ ys) ≡ [] → filter f xs ≡ []
none_of f xs ys e = (none_owed (filter f xs) (filter f ys) (sym e ∙ filter-append f xs ys)).0

pub prefix_filter : {A : Type 0} (f : A → Bool) (xs ys : List A) → IsPrefix xs ys → IsPrefix (filter f xs) (filter f ys)
prefix_filter f xs ys p = (filter f p.0, sym (filter-append f xs p.0) ∙ ap (filter f) p.1)

-- what an entry more adds to a filtered list
pub filter_hit : {A : Type 0} (f : A → Bool) (xs : List A) (x : A) → f x ≡ true → filter f (xs ++ x ∷ []) ≡ filter f xs ++ x ∷ []
filter_hit f xs x e = filter-append f xs (x ∷ []) ∙ ap (λ b. filter f xs ++ cond b (x ∷ []) []) e

pub filter_miss : {A : Type 0} (f : A → Bool) (xs : List A) (x : A) → f x ≡ false → filter f (xs ++ x ∷ []) ≡ filter f xs
filter_miss f xs x e = filter-append f xs (x ∷ []) ∙ (ap (λ b. filter f xs ++ cond b (x ∷ []) []) e ∙ append-nil (filter f xs))

pub filter_longer : {A : Type 0} (f : A → Bool) (xs ys : List A) → length (filter f xs) ≤ length (filter f (xs ++ ys))
filter_longer f xs ys = omega (arith, ap length (filter-append f xs ys), length-append (filter f xs) (filter f ys))

module _ {A : Type 0} where
  pub at_end : (l : List A) (a b : A) (j : ℕ) → get_elem? (l ++ a ∷ []) j ≡ some b → (get_elem? l j ≡ some b) ⊎ ((j ≡ length l) × (a ≡ b))
  at_end [] a b zero e = inr (refl, some-injective a b e)
  at_end [] a b (suc j) e = absurd (some-ne-none b (sym e))
  at_end (x ∷ xs) a b zero e = inl e
  at_end (x ∷ xs) a b (suc j) e = ⊎_elim inl (λ t. inr (ap suc t.0, t.1)) (at_end xs a b j e)

-- one word becomes f of what it was, and the words fit anew
pub words_set : (ws : List ℕ) (W W' f : ℕ → ℕ) (i : ℕ) → ((j n : ℕ) → get_elem? ws j ≡ some n → n ≡ W j) → W' i ≡ f (W i) → ((j : ℕ) → j ≢ i → W' j ≡ W j)
    → (j n : ℕ) → get_elem? (set ws i (f (get_or ws i 0))) j ≡ some n → n ≡ W' j
words_set [] W W' f i fit here others j n e = absurd (some-ne-none n (sym e))
words_set (x ∷ xs) W W' f zero fit here others zero n e = sym (some-injective (f x) n e) ∙ (ap f (fit zero x refl) ∙ sym here)
words_set (x ∷ xs) W W' f zero fit here others (suc j) n e = fit (suc j) n e ∙ sym (others (suc j) (λ h. omega arith))
words_set (x ∷ xs) W W' f (suc i) fit here others zero n e = fit zero n e ∙ sym (others zero (λ h. omega arith))
words_set (x ∷ xs) W W' f (suc i) fit here others (suc j) n e =
    words_set xs (λ k. W (suc k)) (λ k. W' (suc k)) f i (λ k m h. fit (suc k) m h) here (λ k ne. others (suc k) (λ h. ne (omega arith))) j n e

-- the first word, where there is one
pub at_first : (ws : List ℕ) → 0 < length ws → get_elem? ws 0 ≡ some (get_or ws 0 0)
at_first [] none = absurd (omega (arith, none))
at_first (w ∷ ws) some_word = refl

-- a part of a list is no longer than the list
pub filter_fits : {A : Type 0} (f : A → Bool) (xs : List A) → length (filter f xs) ≤ length xs
filter_fits f xs = let both = length-filter_both f (λ x. not (f x)) (λ x. refl) xs in omega (arith, both)

-- one more, where the word does not come to its end
pub no_round : (m n : ℕ) → m ≡ n + 1 → m < 2 ^ 64 → m ≡ (n + 1) % 2 ^ 64
no_round m n e small = omega (arith, e, small)

-- a function changed at one place
abbrev pub upd : {A : Type 0} → (ℕ → A) → ℕ → A → ℕ → A
upd f k a m = cond (eqb m k) a (f m)

pub upd_same : {A : Type 0} (f : ℕ → A) (k m : ℕ) (a : A) → m ≡ k → upd f k a m ≡ a
upd_same f k m a e = ap (λ b. cond b a (f m)) (eq-eqb m k e)

pub upd_else : {A : Type 0} (f : ℕ → A) (k m : ℕ) (a : A) → m ≢ k → upd f k a m ≡ f m
upd_else f k m a ne = ap (λ b. cond b a (f m)) (ne_eqb m k ne)

some_is : {A : Type 0} (x y : A) → Some x ≡ Some y → x ≡ y
some_is x y e = cc

-- what holds of each element, by its place, holds with one more
pub pushed : {A : Type 0} (P : ℕ → A → Type 0) (xs : List A) (x : A) → ((k : ℕ) (t : A) → slice_get xs k ≡ Some t → P k t) → P (length xs) x
    → (k : ℕ) (t : A) → slice_get (xs ++ x ∷ []) k ≡ Some t → P k t
pushed P [] x all here zero t e = subst (P zero) (some_is x t e) here
pushed P [] x all here (suc k) t e = absurd cc
pushed P (y ∷ ys) x all here zero t e = all zero t e
pushed P (y ∷ ys) x all here (suc k) t e = pushed (λ m. P (suc m)) ys x (λ m u h. all (suc m) u h) here k t e

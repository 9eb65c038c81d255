-- Lists over a range of numbers.
use Rattle.std.proofs.Common.{◌≡◌, ◌∙◌, ℕ, zero, suc, ◌+◌, ◌<◌, ◌≤◌, Bool, true, false, cond, List, [], ◌∷◌, ◌++◌, map, refl, sym, ap, ap₂, arith, append-nil}
use Rattle.std.specs.Prelude.{filter}
use Rattle.std.specs.List.{range_with_len}
use Rattle.std.proofs.Math.ListN.{replicate}
use Rattle.std.proofs.lemmas.List.{map-id}
use Rattle.std.proofs.lemmas.List.Elements.{filter-append}
use Rattle.std.proofs.lemmas.List.FromFn.{map-range_with_len_more, filter_of_map_range_with_len_more}

-- two functions that agree on the range
pub map_agrees : {X : Type 0} (f g : ℕ → X) (a n : ℕ) → ((k : ℕ) → a ≤ k → k < a + n → f k ≡ g k) → map f (range_with_len a n) ≡ map g (range_with_len a n)
map_agrees f g a zero agree = refl
map_agrees {X} f g a (suc n) agree =
    ap₂ (λ (x : X) (xs : List X). x ∷ xs) (agree a (omega arith) (omega arith)) (map_agrees f g (a + 1) n (λ k l u. agree k (omega arith) (omega arith)))

-- a function of the numbers from a later one on
pub map_moved : {X : Type 0} (f : ℕ → X) (a b n : ℕ) → map (λ k. f (b + k)) (range_with_len a n) ≡ map f (range_with_len (b + a) n)
map_moved f a b zero = refl
map_moved {X} f a b (suc n) =
    let on : b + (a + 1) ≡ (b + a) + 1 = omega arith in
    ap (λ (xs : List X). f (b + a) ∷ xs) (map_moved f (a + 1) b n ∙ ap (λ (m : ℕ). map f (range_with_len m n)) on)

-- a function that is the same everywhere
pub map_alike : {X : Type 0} (f : ℕ → X) (x : X) (a n : ℕ) → ((k : ℕ) → f k ≡ x) → map f (range_with_len a n) ≡ replicate n x
map_alike f x a zero same = refl
map_alike {X} f x a (suc n) same =
    ap₂ (λ (y : X) (ys : List X). y ∷ ys) (same a) (map_alike f x (a + 1) n same)

-- two tests that agree on the range
pub filter_agrees : (p q : ℕ → Bool) (a n : ℕ) → ((k : ℕ) → a ≤ k → k < a + n → p k ≡ q k) → filter p (range_with_len a n) ≡ filter q (range_with_len a n)
filter_agrees p q a zero agree = refl
filter_agrees p q a (suc n) agree =
    ap₂ (λ (b : Bool) (xs : List ℕ). cond b (a ∷ xs) xs) (agree a (omega arith) (omega arith)) (filter_agrees p q (a + 1) n (λ k l u. agree k (omega arith) (omega arith)))

-- one more number
pub map_more : {X : Type 0} (f : ℕ → X) (n : ℕ) → map f (range_with_len 0 (n + 1)) ≡ map f (range_with_len 0 n) ++ f n ∷ []
map_more f n = map-range_with_len_more f 0 n n (omega arith)

-- one more number is tested
filter_more : (p : ℕ → Bool) (a n j : ℕ) → a + n ≡ j → filter p (range_with_len a (n + 1)) ≡ filter p (range_with_len a n) ++ cond (p j) (j ∷ []) []
filter_more p a n j at =
    ap (filter p) (sym (map-id (range_with_len a (n + 1))))
    ∙ filter_of_map_range_with_len_more p (λ k. k) a n j at
    ∙ ap (λ (xs : List ℕ). filter p xs ++ cond (p j) (j ∷ []) []) (map-id (range_with_len a n))

pub filter_keeps : (p : ℕ → Bool) (a n j : ℕ) → a + n ≡ j → p j ≡ true → filter p (range_with_len a (n + 1)) ≡ filter p (range_with_len a n) ++ j ∷ []
filter_keeps p a n j at passes = filter_more p a n j at ∙ rw passes refl

pub filter_passes : (p : ℕ → Bool) (a n j : ℕ) → a + n ≡ j → p j ≡ false → filter p (range_with_len a (n + 1)) ≡ filter p (range_with_len a n)
filter_passes p a n j at fails = filter_more p a n j at ∙ rw fails (append-nil (filter p (range_with_len a n)))

-- no number passes
pub filter_none : (p : ℕ → Bool) (a n : ℕ) → ((k : ℕ) → a ≤ k → k < a + n → p k ≡ false) → filter p (range_with_len a n) ≡ []
filter_none p a zero fails = refl
filter_none p a (suc n) fails =
    rw (fails a (omega arith) (omega arith)) (filter_none p (a + 1) n (λ k l u. fails k (omega arith) (omega arith)))

range_cut : (a m n : ℕ) → range_with_len a (m + n) ≡ range_with_len a m ++ range_with_len (a + m) n
range_cut a zero n = ap₂ range_with_len (let e : a ≡ a + 0 = omega arith in e) (let e : 0 + n ≡ n = omega arith in e)
range_cut a (suc m) n =
    let more : suc m + n ≡ suc (m + n) = omega arith in
    let further : (a + 1) + m ≡ a + suc m = omega arith in
    rw more (ap (λ (xs : List ℕ). a ∷ xs) (range_cut (a + 1) m n ∙ ap (λ (b : ℕ). range_with_len (a + 1) m ++ range_with_len b n) further))

-- the numbers of two ranges, the second behind the first
pub filter_cut : (p : ℕ → Bool) (a m n : ℕ) → filter p (range_with_len a (m + n)) ≡ filter p (range_with_len a m) ++ filter p (range_with_len (a + m) n)
filter_cut p a m n = ap (filter p) (range_cut a m n) ∙ filter-append p (range_with_len a m) (range_with_len (a + m) n)

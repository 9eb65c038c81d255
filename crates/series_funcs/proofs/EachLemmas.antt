-- A call that may fail, on each of a list, one after the other.
use Rattle.std.proofs.Common.{◌≡◌, ℕ, ◌+◌, ◌<◌, List, [], ◌∷◌, ◌++◌, length, get_or, take, drop, Result, Ok, Err, refl, sym, ap, subst, ◌∙◌}
use Rattle.std.specs.Result.{IfErr, IsErrAnd, result_map_both}
use Rattle.std.proofs.lemmas.List.{drop_more, take-append-drop, take_more}
use Rattle.series_funcs.specs.Each.{each_of, onto}

-- what came before, in front
abbrev before : {Y E : Type 0} → List Y → Result (List Y) E → Result (List Y) E
before ys r = result_map_both (λ zs. ys ++ zs) (λ fault. fault) r

before_none : {Y E : Type 0} (r : Result (List Y) E) → r ≡ before [] r
before_none (Ok ys) = refl
before_none (Err fault) = refl

before_one : {Y E : Type 0} (y : Y) (zs : List Y) (r : Result (List Y) E) → onto (Ok y) (before zs r) ≡ before (y ∷ zs) r
before_one y zs (Ok ws) = refl
before_one y zs (Err fault) = refl

onto_more : {Y E : Type 0} (o : Result Y E) (m n r : Result (List Y) E) (ys : List Y) → onto o m ≡ Ok ys → ((zs : List Y) → m ≡ Ok zs → n ≡ before zs r) → onto o n ≡ before ys r
onto_more (Err fault) m n r ys is more = cc
onto_more (Ok y) (Err fault) n r ys is more = cc
onto_more (Ok y) (Ok zs) n r ys is more =
    let same : y ∷ zs ≡ ys = cc in
    ap (onto (Ok y)) (more zs refl) ∙ before_one y zs r ∙ ap (λ ys. before ys r) same

each_append : {X Y E : Type 0} (f : X → Result Y E) (xs rest : List X) (ys : List Y) → each_of f xs ≡ Ok ys → each_of f (xs ++ rest) ≡ before ys (each_of f rest)
each_append f [] rest ys is = let none : [] ≡ ys = cc in before_none (each_of f rest) ∙ ap (λ ys. before ys (each_of f rest)) none
each_append f (x ∷ xs) rest ys is = onto_more (f x) (each_of f xs) (each_of f (xs ++ rest)) (each_of f rest) ys is (λ zs e. each_append f xs rest zs e)

-- one more
pub each_more : {X Y E : Type 0} (f : X → Result Y E) (xs : List X) (i : ℕ) (x : X) (y : Y) (ys : List Y) → i < length xs → x ≡ get_or xs i x → each_of f (take i xs) ≡ Ok ys → f x ≡ Ok y → each_of f (take (i + 1) xs) ≡ Ok (ys ++ y ∷ [])
each_more f xs i x y ys within is so_far this =
    let last : each_of f (x ∷ []) ≡ Ok (y ∷ []) = rw this refl in
    ap (each_of f) (take_more xs i x within) ∙ each_append f (take i xs) (get_or xs i x ∷ []) ys so_far ∙ ap (λ x. before ys (each_of f (x ∷ []))) (sym is) ∙ ap (before ys) last

-- the first fault
pub each_stops : {X Y E : Type 0} (f : X → Result Y E) (xs : List X) (i : ℕ) (x : X) (fault : E) (ys : List Y) → i < length xs → x ≡ get_or xs i x → each_of f (take i xs) ≡ Ok ys → f x ≡ Err fault → each_of f xs ≡ Err fault
each_stops f xs i x fault ys within is so_far this =
    let rest = drop (i + 1) xs in
    let last : each_of f (x ∷ rest) ≡ Err fault = rw this refl in
    ap (each_of f) (sym (take-append-drop i xs)) ∙ each_append f (take i xs) (drop i xs) ys so_far
    ∙ ap (λ xs. before ys (each_of f xs)) (drop_more xs i x within ∙ ap (λ x. x ∷ rest) (sym is)) ∙ ap (before ys) last

-- a fault that is handed on
pub if_err_at : {T E : Type 0} (Q : E → Type 0) (r : Result T E) (fault : E) → IsErrAnd r (λ e. e ≡ fault) → Q fault → IfErr r Q
if_err_at Q (Ok x) fault is held = absurd is
if_err_at Q (Err e) fault is held = subst Q (sym is) held

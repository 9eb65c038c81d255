-- What points write into their own archive.
use Rattle.std.proofs.Common.{◌≡◌, ◌≢◌, ℕ, ℤ, suc, ◌+◌, ◌-◌, ◌*◌, ◌/◌, ◌%◌, ◌^◌, ◌<◌, ◌≤◌, ◌==◌, Bool, true, false, List, [], ◌∷◌, ◌++◌, length, get_or, set, All, refl, sym, ap, ◌∙◌, arith}
use Rattle.std.specs.Prelude.{filter, take, if◌then◌else◌}
use Rattle.std.proofs.lemmas.Bool.Decides.{nat_tests}
use Rattle.std.proofs.lemmas.List.Elements.{All-head, All-tail, All-nil, All-cons, filter_more}
use Rattle.std.proofs.lemmas.Nat.{div-add-mod', le-div}
use Rattle.std.proofs.Math.Nat.{mul-mod_left, mul-le-mul_left}
use Rattle.fixed_num.specs.Moment.{is_moment}
use Rattle.archive_update.specs.Batch.{bucket_of, latest_of_each}
use Rattle.archive_update.specs.Buckets.{IsOwn, with_latest}

-- ---- the latest of each bucket

pub latest_set : (xs : List (ℕ × ℤ)) (w d : ℕ × ℤ) → 0 < length xs → (get_or xs (length xs - 1) d).0 ≡ w.0 → set xs (length xs - 1) w ≡ with_latest xs w
latest_set [] w d some same = absurd (omega arith)
latest_set (x ∷ []) w d some same = let test : (x.0 == w.0) ≡ true = grind (arith, nat_tests) in rw test refl
latest_set (x ∷ y ∷ rest) w d some same =
    let last : length (x ∷ y ∷ rest) - 1 ≡ suc (length (y ∷ rest) - 1) = omega arith in
    let there : (get_or (y ∷ rest) (length (y ∷ rest) - 1) d).0 ≡ w.0 = rw last at same in
    rw last (ap (λ (ws : List (ℕ × ℤ)). x ∷ ws) (latest_set (y ∷ rest) w d (omega arith) there))

pub latest_push : (xs : List (ℕ × ℤ)) (w d : ℕ × ℤ) → (0 < length xs → (get_or xs (length xs - 1) d).0 ≢ w.0) → xs ++ w ∷ [] ≡ with_latest xs w
latest_push [] w d other = refl
latest_push (x ∷ []) w d other = let far = other (omega arith) in let test : (x.0 == w.0) ≡ false = grind (arith, nat_tests) in rw test refl
latest_push (x ∷ y ∷ rest) w d other =
    let last : length (x ∷ y ∷ rest) - 1 ≡ suc (length (y ∷ rest) - 1) = omega arith in
    let far = rw last at other (omega arith) in
    ap (λ (ws : List (ℕ × ℤ)). x ∷ ws) (latest_push (y ∷ rest) w d (λ some. far))

pub some_latest : (step : ℕ) (p : ℕ × ℤ) (ps : List (ℕ × ℤ)) → 1 ≤ length (latest_of_each step (p ∷ ps))
some_latest step p [] = omega arith
some_latest step p (q ∷ rest) =
    elim (bucket_of step p.0 == bucket_of step q.0) as (λ b. 1 ≤ length (if b then latest_of_each step (q ∷ rest) else (bucket_of step p.0, p.1) ∷ latest_of_each step (q ∷ rest))) [
      | true ↦ some_latest step q rest
      | false ↦ omega arith
    ]

behind_first : (x : ℕ × ℤ) (xs : List (ℕ × ℤ)) (w : ℕ × ℤ) → 1 ≤ length xs → with_latest (x ∷ xs) w ≡ x ∷ with_latest xs w
behind_first x [] w some = absurd (omega arith)
behind_first x (y ∷ rest) w some = refl

-- one more point
pub latest_more : (step : ℕ) (ps : List (ℕ × ℤ)) (p : ℕ × ℤ) → latest_of_each step (ps ++ p ∷ []) ≡ with_latest (latest_of_each step ps) (bucket_of step p.0, p.1)
latest_more step [] p = refl
latest_more step (x ∷ []) p = refl
latest_more step (x ∷ y ∷ rest) p =
    let before = latest_more step (y ∷ rest) p in
    elim (bucket_of step x.0 == bucket_of step y.0) as (λ b. (if b then latest_of_each step ((y ∷ rest) ++ p ∷ []) else (bucket_of step x.0, x.1) ∷ latest_of_each step ((y ∷ rest) ++ p ∷ []))
    ≡ with_latest (if b then latest_of_each step (y ∷ rest) else (bucket_of step x.0, x.1) ∷ latest_of_each step (y ∷ rest)) (bucket_of step p.0, p.1)) [
      | true ↦ before
      | false ↦ ap (λ (ws : List (ℕ × ℤ)). (bucket_of step x.0, x.1) ∷ ws) before ∙ sym (behind_first (bucket_of step x.0, x.1) (latest_of_each step (y ∷ rest)) (bucket_of step p.0, p.1) (some_latest step y rest))
    ]

-- ---- the loop

pub more_home : (step : ℕ) (test : ℕ × ℤ → Bool) (points : List (ℕ × ℤ)) (k : ℕ) (d : ℕ × ℤ) (writes later : List (ℕ × ℤ)) → k < length points → writes ≡ latest_of_each step (filter test (take k points)) → test (get_or points k d) ≡ true
    → later ≡ with_latest writes (bucket_of step (get_or points k d).0, (get_or points k d).1) → later ≡ latest_of_each step (filter test (take (k + 1) points))
more_home step test points k d writes later lt before home after =
    let here : filter test (take (k + 1) points) ≡ filter test (take k points) ++ get_or points k d ∷ [] = filter_more test points k d lt ∙ rw home refl in
    after ∙ ap (λ (ws : List (ℕ × ℤ)). with_latest ws (bucket_of step (get_or points k d).0, (get_or points k d).1)) before
    ∙ sym (latest_more step (filter test (take k points)) (get_or points k d)) ∙ ap (latest_of_each step) (sym here)

nothing_behind : (xs : List (ℕ × ℤ)) → xs ++ [] ≡ xs
nothing_behind [] = refl
nothing_behind (x ∷ xs) = ap (λ (ys : List (ℕ × ℤ)). x ∷ ys) (nothing_behind xs)

pub more_elsewhere : (step : ℕ) (test : ℕ × ℤ → Bool) (points : List (ℕ × ℤ)) (k : ℕ) (d : ℕ × ℤ) (writes : List (ℕ × ℤ)) → k < length points → writes ≡ latest_of_each step (filter test (take k points)) → test (get_or points k d) ≡ false
    → writes ≡ latest_of_each step (filter test (take (k + 1) points))
more_elsewhere step test points k d writes lt before other =
    let here : filter test (take (k + 1) points) ≡ filter test (take k points) = filter_more test points k d lt ∙ rw other (nothing_behind (filter test (take k points))) in
    before ∙ ap (latest_of_each step) (sym here)

-- ---- the buckets

pub moment_is_short : (time : ℕ) → is_moment time ≡ true → time < 2 ^ 32
moment_is_short time moment =
    let greatest : time ≤ 4000000000 = grind (arith, nat_tests) in
    omega arith

pub own_bucket : (step time : ℕ) → 1 ≤ step → step ≤ 31536000 → is_moment time ≡ true → IsOwn step (bucket_of step time)
own_bucket step time some most moment =
    let least : 31536000 ≤ time = grind (arith, nat_tests) in
    let greatest : time ≤ 4000000000 = grind (arith, nat_tests) in
    let whole = div-add-mod' time step in
    let small : time % step < step = omega arith in
    let product : bucket_of step time ≡ time / step * step = omega arith in
    record {
      shown = record { multiple = (omega arith, ap (λ (x : ℕ). x % step) product ∙ mul-mod_left (time / step) step); most = omega arith };
      reaches = λ multiple exact within.
          let parts = div-add-mod' multiple step in
          let quotient : multiple / step ≤ time / step = le-div (multiple / step) time step some (omega arith) in
          let products = mul-le-mul_left step quotient in
          omega arith;
    }

pub latest_all : (P : ℕ × ℤ → Type 0) (xs : List (ℕ × ℤ)) (w : ℕ × ℤ) → All P xs → P w → All P (with_latest xs w)
latest_all P [] w all here = All-cons P w [] here (All-nil P)
latest_all P (x ∷ []) w all here = elim (x.0 == w.0) as (λ b. All P (if b then w ∷ [] else x ∷ w ∷ [])) [
  | true ↦ All-cons P w [] here (All-nil P)
  | false ↦ All-cons P x (w ∷ []) (All-head P x [] all) (All-cons P w [] here (All-nil P))
]
latest_all P (x ∷ y ∷ rest) w all here = All-cons P x (with_latest (y ∷ rest) w) (All-head P x (y ∷ rest) all) (latest_all P (y ∷ rest) w (All-tail P x (y ∷ rest) all) here)

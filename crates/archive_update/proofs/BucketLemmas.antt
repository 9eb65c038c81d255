-- Buckets one behind the other, each once.
use Rattle.std.proofs.Common.{◌≡◌, ◌≢◌, ℕ, ℤ, suc, ◌+◌, ◌-◌, ◌*◌, ◌/◌, ◌%◌, ◌<◌, ◌≤◌, ◌==◌, true, false, cond, eqb, List, [], ◌∷◌, ◌++◌, length, get_or, map, take, All, refl, sym, ap, ◌∙◌, arith}
use Rattle.std.specs.List.{dedup, dedup_from}
use Rattle.std.proofs.lemmas.Bool.Decides.{nat_tests}
use Rattle.std.proofs.lemmas.List.{map-append, take_more}
use Rattle.std.proofs.lemmas.List.Elements.{All-cons, All-head, All-nil, All-tail}
use Rattle.std.proofs.lemmas.Nat.{div-add-mod', div-mul-add}
use Rattle.archive_update.specs.Batch.{bucket_of}
use Rattle.archive_update.specs.Buckets.{with_bucket}

behind_first : (x : ℕ) (xs : List ℕ) (bucket : ℕ) → 1 ≤ length xs → with_bucket (x ∷ xs) bucket ≡ x ∷ with_bucket xs bucket
behind_first x [] bucket some = absurd (omega arith)
behind_first x (y ∷ rest) bucket some = refl

some_kept : (k : ℕ) (xs : List ℕ) → 1 ≤ length (dedup_from eqb k xs)
some_kept k [] = omega arith
some_kept k (x ∷ xs) = elim (x == k) as (λ b. 1 ≤ length (cond b (dedup_from eqb k xs) (k ∷ dedup_from eqb x xs))) [
  | true ↦ some_kept k xs
  | false ↦ omega arith
]

from_more : (k : ℕ) (xs : List ℕ) (bucket : ℕ) → dedup_from eqb k (xs ++ bucket ∷ []) ≡ with_bucket (dedup_from eqb k xs) bucket
from_more k [] bucket = refl
from_more k (x ∷ xs) bucket = elim (x == k) as (λ b. cond b (dedup_from eqb k (xs ++ bucket ∷ [])) (k ∷ dedup_from eqb x (xs ++ bucket ∷ [])) ≡ with_bucket (cond b (dedup_from eqb k xs) (k ∷ dedup_from eqb x xs)) bucket) [
  | true ↦ from_more k xs bucket
  | false ↦ ap (λ (ys : List ℕ). k ∷ ys) (from_more x xs bucket) ∙ sym (behind_first k (dedup_from eqb x xs) bucket (some_kept x xs))
]

dedup_more : (xs : List ℕ) (bucket : ℕ) → dedup eqb (xs ++ bucket ∷ []) ≡ with_bucket (dedup eqb xs) bucket
dedup_more [] bucket = refl
dedup_more (x ∷ xs) bucket = from_more x xs bucket

-- the bucket of one more write
pub bucket_more : (step : ℕ) (own : List (ℕ × ℤ)) (k : ℕ) (d : ℕ × ℤ) (buckets later : List ℕ) → k < length own → buckets ≡ dedup eqb (map (λ write. bucket_of step write.0) (take k own))
    → later ≡ with_bucket buckets (bucket_of step (get_or own k d).0) → later ≡ dedup eqb (map (λ write. bucket_of step write.0) (take (k + 1) own))
bucket_more step own k d buckets later lt before after =
    let place : ℕ × ℤ → ℕ = λ write. bucket_of step write.0 in
    after ∙ ap (λ (xs : List ℕ). with_bucket xs (place (get_or own k d))) before
    ∙ sym (ap (λ (writes : List (ℕ × ℤ)). dedup eqb (map place writes)) (take_more own k d lt) ∙ ap (dedup eqb) (map-append place (take k own) (get_or own k d ∷ []))
    ∙ dedup_more (map place (take k own)) (place (get_or own k d)))

-- a bucket that is the last of them already
pub bucket_same : (xs : List ℕ) (bucket d : ℕ) → 0 < length xs → get_or xs (length xs - 1) d ≡ bucket → xs ≡ with_bucket xs bucket
bucket_same [] bucket d some same = absurd (omega arith)
bucket_same (x ∷ []) bucket d some same = let test : (bucket == x) ≡ true = grind (arith, nat_tests) in rw test refl
bucket_same (x ∷ y ∷ rest) bucket d some same =
    let last : length (x ∷ y ∷ rest) - 1 ≡ suc (length (y ∷ rest) - 1) = omega arith in
    ap (λ (xs : List ℕ). x ∷ xs) (bucket_same (y ∷ rest) bucket d (omega arith) (rw last at same))

-- another one
pub bucket_push : (xs : List ℕ) (bucket d : ℕ) → (0 < length xs → get_or xs (length xs - 1) d ≢ bucket) → xs ++ bucket ∷ [] ≡ with_bucket xs bucket
bucket_push [] bucket d other = refl
bucket_push (x ∷ []) bucket d other = let far = other (omega arith) in let test : (bucket == x) ≡ false = grind (arith, nat_tests) in rw test refl
bucket_push (x ∷ y ∷ rest) bucket d other =
    let last : length (x ∷ y ∷ rest) - 1 ≡ suc (length (y ∷ rest) - 1) = omega arith in
    let far = rw last at other (omega arith) in
    ap (λ (xs : List ℕ). x ∷ xs) (bucket_push (y ∷ rest) bucket d (λ some. far))

pub bucket_all : (P : ℕ → Type 0) (xs : List ℕ) (bucket : ℕ) → All P xs → P bucket → All P (with_bucket xs bucket)
bucket_all P [] bucket all here = All-cons P bucket [] here (All-nil P)
bucket_all P (x ∷ []) bucket all here = elim (bucket == x) as (λ b. All P (cond b (x ∷ []) (x ∷ bucket ∷ []))) [
  | true ↦ all
  | false ↦ All-cons P x (bucket ∷ []) (All-head P x [] all) (All-cons P bucket [] here (All-nil P))
]
bucket_all P (x ∷ y ∷ rest) bucket all here = All-cons P x (with_bucket (y ∷ rest) bucket) (All-head P x (y ∷ rest) all) (bucket_all P (y ∷ rest) bucket (All-tail P x (y ∷ rest) all) here)

-- a multiple of the step that is not after a time, and less than a step before it, is the time's bucket
pub bucket_holds : (bucket step time : ℕ) → 0 < step → bucket % step ≡ 0 → bucket ≤ time → time - bucket < step → bucket ≡ bucket_of step time
bucket_holds bucket step time some whole le near =
    let there = div-add-mod' bucket step in
    let here = div-add-mod' time step in
    let quotient : time / step ≡ bucket / step = ap (λ (x : ℕ). x / step) (let sum : time ≡ bucket / step * step + (time - bucket) = omega (arith, there) in sum) ∙ div-mul-add (bucket / step) step (time - bucket) near in
    omega (arith, there, here, ap (λ (x : ℕ). x * step) quotient)

pub holds_bucket : (bucket step time : ℕ) → 0 < step → bucket ≡ bucket_of step time → time - bucket < step
holds_bucket bucket step time some same =
    let small : time % step < step = omega arith in
    let whole = div-add-mod' time step in
    omega (arith, whole, same)

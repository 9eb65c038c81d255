-- Points in rising time.
use Rattle.std.proofs.Common.{◌≡◌, ℕ, ℤ, zero, suc, ◌-◌, ◌<◌, ◌≤◌, Bool, false, List, [], ◌∷◌, length, get_or, All, refl, arith}
use Rattle.std.specs.Prelude.{filter}
use Rattle.std.proofs.lemmas.Bool.Decides.{nat_tests}
use Rattle.std.proofs.lemmas.List.Elements.{All-head, All-tail}
use Rattle.std.proofs.lemmas.Grind.{common_steps}
use Rattle.point_cache.specs.Points.{IsRising}
use Rattle.archive_update.specs.Spans.{is_within}
use Rattle.archive_update.specs.declared.own.HomeSpan.{HomeSpan}

-- the first is the earliest
pub first_is_least : (ps : List (ℕ × ℤ)) (k : ℕ) (d : ℕ × ℤ) → IsRising ps → k < length ps → (get_or ps 0 d).0 ≤ (get_or ps k d).0
first_is_least [] k d rising lt = absurd (omega arith)
first_is_least (p ∷ ps) zero d rising lt = omega arith
first_is_least (p ∷ []) (suc k) d rising lt = absurd (omega arith)
first_is_least (p ∷ q ∷ rest) (suc k) d rising lt = let later = first_is_least (q ∷ rest) k d rising.1 (omega arith) in omega (arith, rising.0, later)

-- the last is the latest
pub last_is_most : (ps : List (ℕ × ℤ)) (k : ℕ) (d : ℕ × ℤ) → IsRising ps → k < length ps → (get_or ps k d).0 ≤ (get_or ps (length ps - 1) d).0
last_is_most [] k d rising lt = absurd (omega arith)
last_is_most (p ∷ []) zero d rising lt = omega arith
last_is_most (p ∷ []) (suc k) d rising lt = absurd (omega arith)
last_is_most (p ∷ q ∷ rest) zero d rising lt =
    let last : length (p ∷ q ∷ rest) - 1 ≡ suc (length (q ∷ rest) - 1) = omega arith in
    let later = last_is_most (q ∷ rest) 0 d rising.1 (omega arith) in
    rw last (omega (arith, rising.0, later))
last_is_most (p ∷ q ∷ rest) (suc k) d rising lt =
    let last : length (p ∷ q ∷ rest) - 1 ≡ suc (length (q ∷ rest) - 1) = omega arith in
    rw last (last_is_most (q ∷ rest) k d rising.1 (omega arith))

-- none is in a span that ends with the first or before it
pub all_later : (span : HomeSpan) (ps : List (ℕ × ℤ)) (d : ℕ × ℤ) → IsRising ps → span.until ≤ (get_or ps 0 d).0 → All (λ p. is_within p.0 span ≡ false) ps
all_later span ps d rising past = λ k e lt.
    let least = first_is_least ps k d rising lt in
    let same : get_or ps k e ≡ get_or ps k d = grind (arith, common_steps) in
    rw same (grind (arith, nat_tests))

-- none is in a span that begins behind the last
pub all_earlier : (span : HomeSpan) (ps : List (ℕ × ℤ)) (d : ℕ × ℤ) → IsRising ps → (get_or ps (length ps - 1) d).0 < span.since → All (λ p. is_within p.0 span ≡ false) ps
all_earlier span ps d rising past = λ k e lt.
    let most = last_is_most ps k d rising lt in
    let same : get_or ps k e ≡ get_or ps k d = grind (arith, common_steps) in
    rw same (grind (arith, nat_tests))

-- what no point passes keeps none
pub nothing_kept : (test : ℕ × ℤ → Bool) (ps : List (ℕ × ℤ)) → All (λ p. test p ≡ false) ps → filter test ps ≡ []
nothing_kept test [] none = refl
nothing_kept test (p ∷ ps) none =
    let here : test p ≡ false = All-head (λ (p : ℕ × ℤ). test p ≡ false) p ps none in
    rw here (nothing_kept test ps (All-tail (λ (p : ℕ × ℤ). test p ≡ false) p ps none))

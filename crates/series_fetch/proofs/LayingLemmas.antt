-- Pending points over the values of buckets.
use Rattle.std.proofs.Common.{◌≡◌, ℕ, ℤ, ◌+◌, ◌-◌, ◌*◌, ◌%◌, ◌<◌, ◌≤◌, List, [], ◌∷◌, length, get_or, set, map, slice_get, option_map, Option, Some, None, inl, inr, refl, sym, ap, ◌∙◌, arith}
use Rattle.std.proofs.Math.Nat.{add-mul-mod_self_right}
use Rattle.std.proofs.lemmas.Bool.{cases_lt}
use Rattle.std.proofs.lemmas.Grind.{get_or-set_at}
use Rattle.std.proofs.lemmas.List.{get_or-set_other, length-map}
use Rattle.std.proofs.lemmas.Nat.{mul-le}
use Rattle.std.proofs.lemmas.Option.{slice_get-get_or, slice_get-map}
use Rattle.ring_format.specs.Layout.{LayoutValue}
use Rattle.series_fetch.specs.Shown.{values_in, shown_of, shown_in, shown_of_pending}

-- a value that is held stands for an archive that holds it in any bucket
held_anywhere : (layout : LayoutValue) (held : Option ℤ) (i a b : ℕ) (pending : List ℤ) → shown_of layout (λ _ _. held) i a pending ≡ shown_of layout (λ _ _. held) i b pending
held_anywhere layout held i a b [] = refl
held_anywhere layout held i a b (v ∷ vs) = refl

-- the value of a bucket, from that of its pending points
pub value_laid : (layout : LayoutValue) (points : List (ℕ × ℤ)) (i step bucket : ℕ) (value held was : Option ℤ) (pending : List ℤ)
    → value ≡ shown_of layout (λ _ _. held) i 0 pending → held ≡ was → pending ≡ values_in step points bucket → value ≡ shown_in layout (λ _ _. was) points i step bucket
unfolding shown_in
value_laid layout points i step bucket value held was pending is as_before are =
    is ∙ held_anywhere layout held i 0 bucket pending ∙ ap (λ (h : Option ℤ). shown_of layout (λ _ _. h) i bucket pending) as_before
    ∙ ap (λ (vs : List ℤ). shown_of layout (λ _ _. was) i bucket vs) are

-- in the finest archive a bucket shows its latest point, or what is held where it has none
pub latest_shown : (layout : LayoutValue) (held : Option ℤ) (points : List (ℕ × ℤ)) (d : ℕ × ℤ) → 0 < length points
    → Some (get_or points (length points - 1) d).1 ≡ shown_of layout (λ _ _. held) 0 0 (map (λ p. p.1) points)
unfolding shown_of_pending
latest_shown layout held [] d some = absurd (omega (arith, some))
latest_shown layout held (p ∷ ps) d some =
    sym (ap (λ (n : ℕ). slice_get (map (λ (p : ℕ × ℤ). p.1) (p ∷ ps)) (n - 1)) (length-map (p ∷ ps) (λ (p : ℕ × ℤ). p.1))
    ∙ slice_get-map (λ (p : ℕ × ℤ). p.1) (p ∷ ps) (length (p ∷ ps) - 1)
    ∙ ap (option_map (λ (p : ℕ × ℤ). p.1)) (slice_get-get_or (p ∷ ps) (length (p ∷ ps) - 1) d (omega arith)))

pub held_shown : (layout : LayoutValue) (held : Option ℤ) (points : List (ℕ × ℤ)) → length points ≡ 0 → held ≡ shown_of layout (λ _ _. held) 0 0 (map (λ p. p.1) points)
held_shown layout held [] none = refl
held_shown layout held (p ∷ ps) none = absurd (omega (arith, none))

-- one more bucket
pub laid_more : (layout : LayoutValue) (old now : List (Option ℤ)) (points : List (ℕ × ℤ)) (i first step k : ℕ) (value : Option ℤ) → k < length now
    → ((j : ℕ) → j < k → get_or now j None ≡ shown_in layout (λ _ _. get_or old j None) points i step (first + j * step))
    → value ≡ shown_in layout (λ _ _. get_or old k None) points i step (first + k * step)
    → (j : ℕ) → j < k + 1 → get_or (set now k value) j None ≡ shown_in layout (λ _ _. get_or old j None) points i step (first + j * step)
laid_more layout old now points i first step k value within done here j below =
    elim (cases_lt j k) [
      | inl lt ↦ get_or-set_other now k j value None (omega arith) ∙ done j lt
      | inr le ↦
          let same : j ≡ k = omega arith in
          get_or-set_at now k j value None same within ∙ here ∙ ap (λ (n : ℕ). shown_in layout (λ _ _. get_or old n None) points i step (first + n * step)) (sym same)
    ]

-- buckets a step apart
pub whole_more : (first step k : ℕ) → first % step ≡ 0 → (first + k * step) % step ≡ 0
whole_more first step k whole = add-mul-mod_self_right first k step ∙ whole

-- a bucket ends no later than the last
pub bucket_within : (first step k n end : ℕ) → k < n → end ≡ first + n * step → (first + k * step) + step ≤ end
bucket_within first step k n end lt is = omega (arith, is, mul-le (k + 1) step n step (omega arith) (omega arith))

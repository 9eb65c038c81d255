-- The known of many values.
use Rattle.std.proofs.Common.{◌≡◌, ◌∙◌, ◌≤◌, ◌<◌, ◌+◌, ◌++◌, ℕ, zero, suc, ℤ, List, [], ◌∷◌, length, get_or, take, drop, Option, Some, None, refl, sym, ap, arith}
use Rattle.std.specs.List.{filter_map}
use Rattle.std.proofs.lemmas.List.{take_all, take_more}
use Rattle.std.proofs.lemmas.List.Elements.{filter_map-append}
use Rattle.archive_update.specs.Batch.{itself}

-- nothing stands behind the last value
pub nothing_past : (values : List (Option ℤ)) (at : ℕ) → length values ≤ at → [] ≡ drop at values
nothing_past [] zero past = refl
nothing_past [] (suc at) past = refl
nothing_past (x ∷ values) zero past = absurd (omega arith)
nothing_past (x ∷ values) (suc at) past = nothing_past values at (omega arith)

-- one more value is gathered
pub known_more : (known later : List ℤ) (part : List (Option ℤ)) (k : ℕ) (d : Option ℤ) → k < length part → known ≡ filter_map itself (take k part)
    → later ≡ known ++ filter_map itself (get_or part k d ∷ []) → later ≡ filter_map itself (take (k + 1) part)
known_more known later part k d lt before more =
    more ∙ ap (λ (xs : List ℤ). xs ++ filter_map itself (get_or part k d ∷ [])) before
    ∙ sym (ap (filter_map itself) (take_more part k d lt) ∙ filter_map-append itself (take k part) (get_or part k d ∷ []))

-- no more are known than are looked at
pub known_few : (places : ℕ) (values : List (Option ℤ)) → length (filter_map itself (take places values)) ≤ places
known_few zero values = omega arith
known_few (suc places) [] = omega arith
known_few (suc places) (None ∷ values) = omega (arith, known_few places values)
known_few (suc places) (Some x ∷ values) = omega (arith, known_few places values)

-- all of a part are gathered
pub known_all : (known : List ℤ) (part values : List (Option ℤ)) (k at places : ℕ) → length part ≤ k → known ≡ filter_map itself (take k part) → part ≡ take places (drop at values)
    → known ≡ filter_map itself (take places (drop at values))
known_all known part values k at places past all is = all ∙ ap (filter_map itself) (take_all k part past ∙ is)

-- Texts with one front stand together in byte order.
use Rattle.std.proofs.Common.{Ordering, Less, Equal, ◌≡◌, ◌≢◌, ℕ, ◌<◌, ◌⊎◌, inl, inr, List, [], ◌∷◌, ◌++◌, refl, sym, ap, ◌∙◌}
use Rattle.std.proofs.lemmas.Bool.{cases_order}
use Rattle.std.specs.Cmp.{nat_cmp_is}
use Rattle.std.specs.Cmp.Lexicographic.{slice_cmp}
use Rattle.std.specs.Ordering.{nat_cmp, ordering_then}
use Rattle.path_glob.specs.Laws.{BeginsWith}

same_order : (x y : ℕ) → x ≡ y → nat_cmp x y ≡ Equal
same_order x y e = sym (nat_cmp_is x y Equal e)

less_order : (x y : ℕ) → x < y → nat_cmp x y ≡ Less
less_order x y lt = sym (nat_cmp_is x y Less lt)

-- what begins with a front is not below it
pub front_not_below : (front rest : List ℕ) → slice_cmp nat_cmp (front ++ rest) front ≡ Less → ⊥
front_not_below [] [] is = absurd cc
front_not_below [] (b ∷ rest) is = absurd cc
front_not_below (b ∷ front) rest is =
    front_not_below front rest (ap (λ (o : Ordering). ordering_then o (slice_cmp nat_cmp (front ++ rest) front)) (sym (same_order b b refl)) ∙ is)

-- the first bytes of three texts
past_byte : (b k o : ℕ) (front key other rest : List ℕ) → (b ≡ k) ⊎ ((b < k) ⊎ (k < b))
    → (slice_cmp nat_cmp key front ≢ Less → (BeginsWith front key → ⊥) → slice_cmp nat_cmp other key ≢ Less → BeginsWith front other → ⊥)
    → slice_cmp nat_cmp (k ∷ key) (b ∷ front) ≢ Less → (BeginsWith (b ∷ front) (k ∷ key) → ⊥) → slice_cmp nat_cmp (o ∷ other) (k ∷ key) ≢ Less
    → (o ∷ other) ≡ (b ∷ front) ++ rest → ⊥
past_byte b k o front key other rest (inl same) later above apart behind is =
    let first : o ≡ b = cc in
    let others : other ≡ front ++ rest = cc in
    later
    (λ less. above (ap (λ (r : Ordering). ordering_then r (slice_cmp nat_cmp key front)) (same_order k b (sym same)) ∙ less))
    (λ begins. apart (begins.0, cc (same, begins.1)))
    (λ less. behind (ap (λ (r : Ordering). ordering_then r (slice_cmp nat_cmp other key)) (same_order o k (first ∙ same)) ∙ less))
    (rest, others)
past_byte b k o front key other rest (inr (inl below)) later above apart behind is =
    let first : o ≡ b = cc in
    behind (ap (λ (r : Ordering). ordering_then r (slice_cmp nat_cmp other key)) (less_order o k (rw first below)))
past_byte b k o front key other rest (inr (inr higher)) later above apart behind is =
    above (ap (λ (r : Ordering). ordering_then r (slice_cmp nat_cmp key front)) (less_order k b higher))

-- nothing that begins with a front stands behind a text above the front that does not
pub front_never_past : (front key other : List ℕ) → slice_cmp nat_cmp key front ≢ Less → (BeginsWith front key → ⊥) → slice_cmp nat_cmp other key ≢ Less → BeginsWith front other → ⊥
front_never_past [] key other above apart behind begins = apart (key, refl)
front_never_past (b ∷ front) [] other above apart behind begins = above refl
front_never_past (b ∷ front) (k ∷ key) [] above apart behind begins = behind refl
front_never_past (b ∷ front) (k ∷ key) (o ∷ other) above apart behind begins =
    past_byte b k o front key other begins.0 (cases_order b k) (front_never_past front key other) above apart behind begins.1

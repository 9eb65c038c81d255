-- Names that a glob was held against.
use Rattle.std.specs.Prelude.{◌≡◌, ◌≢◌, ◌↔◌, ◌⊎◌, ℕ, List, [], ◌∷◌, All, Contains, IsSome, Some}
use Rattle.std.specs.Cmp.Lexicographic.{slice_cmp}
use Rattle.std.specs.List.Sorted.{IsStrictlySortedBy}
use Rattle.std.specs.Ordering.{nat_cmp}
use Rattle.std.specs.declared.cmp.Ordering.TheVariants.{Less}
use Rattle.path_glob.specs.Faults.{Said}
use Rattle.metric_index.specs.Found.{IsFitted}
use Rattle.metric_index.specs.Index.{entry_of, paths_of}

-- the glob, and all the names that were known then
pub record SearchedValue : Type 0 where
  pub glob : Said
  pub names : List (List ℕ)

-- of these names, in byte order, those that a glob fits
pub record Sifts (glob : Said) (names fitting : List (List ℕ)) : Type 0 where
  pub rising : IsStrictlySortedBy (slice_cmp nat_cmp) names
  pub in_order : IsStrictlySortedBy (slice_cmp nat_cmp) fitting
  pub found : (path : List ℕ) → Contains fitting path ↔ (IsFitted glob path × Contains names path)

-- of these names those that fit, in their order
abbrev pub PicksNames : (List ℕ → Type 0) → List (List ℕ) → List (List ℕ) → Type 0
PicksNames fits [] picked = picked ≡ []
PicksNames fits (name ∷ names) picked =
    (fits name × (rest : List (List ℕ)) × (picked ≡ name ∷ rest) × PicksNames fits names rest)
    ⊎ ((fits name → ⊥) × PicksNames fits names picked)

-- the names are known still
abbrev pub AreKnown : {V : Type 0} → List (List ℕ × V) → List (List ℕ) → Type 0
AreKnown index names = All (λ name. IsSome (entry_of index name)) names

-- each of these paths with its entry
pub record AreHits {V : Type 0} (index : List (List ℕ × V)) (paths : List (List ℕ)) (hits : List (List ℕ × V)) : Type 0 where
  pub same : paths_of hits ≡ paths
  pub entries : All (λ hit. entry_of index hit.0 ≡ Some hit.1) hits

-- Known paths in byte order, from a path on.
pub record IsPieceFrom {V : Type 0} (index : List (List ℕ × V)) (least : List ℕ) (paths : List (List ℕ)) : Type 0 where
  pub known : AreKnown index paths
  pub rising : IsStrictlySortedBy (slice_cmp nat_cmp) paths
  pub behind : All (λ path. slice_cmp nat_cmp path least ≢ Less) paths

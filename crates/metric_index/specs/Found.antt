-- The known paths that are found, and how.
use Rattle.std.specs.Prelude.{◌≡◌, ◌≢◌, ◌↔◌, ◌⊎◌, ℕ, ◌==◌, nat_eq, Bool, ◌||◌, if◌then◌else◌, List, [], ◌∷◌, ◌++◌, length, All, Contains, Option, Some, None, IsSome}
use Rattle.std.specs.Cmp.Lexicographic.{slice_cmp}
use Rattle.std.specs.List.{ends_with}
use Rattle.std.specs.List.Sorted.{IsStrictlySortedBy}
use Rattle.std.specs.Ordering.{nat_cmp}
use Rattle.std.specs.declared.cmp.Ordering.TheVariants.{Less}
use Rattle.metric_path.specs.Path.{nodes_of, path_fault}
use Rattle.path_glob.specs.Faults.{Said}
use Rattle.path_glob.specs.Glob.{Fits}
use Rattle.path_glob.specs.Laws.{BeginsWith, literal_front}
use Rattle.metric_index.specs.Index.{entry_of, paths_of}
use Rattle.metric_index.specs.declared.hit.Hit.{Hit}

-- the paths that a glob fits
abbrev pub IsFitted : Said → List ℕ → Type 0
IsFitted glob path = Fits glob.nodes (nodes_of path)

-- The known paths that fit, in byte order, each once and with its entry.
pub record Finds {V : Type 0} (index : List (List ℕ × V)) (fits : List ℕ → Type 0) (hits : List (List ℕ × V)) : Type 0 where
  pub in_order : IsStrictlySortedBy (slice_cmp nat_cmp) (paths_of hits)
  pub found : (path : List ℕ) → Contains (paths_of hits) path ↔ (fits path × IsSome (entry_of index path))
  pub entries : All (λ hit. entry_of index hit.0 ≡ Some hit.1) hits

-- what a hit says
abbrev pub seen : {V : Type 0} → Hit V → List ℕ × V
seen hit = (hit.path.now, hit.entry.now)

-- The least of the legal paths that begin with a front, if there are some.
abbrev pub IsLeastPath : List ℕ → Option (List ℕ) → Type 0
IsLeastPath front None = (path : List ℕ) → path_fault path ≡ None → BeginsWith front path → ⊥
IsLeastPath front (Some least) =
    BeginsWith front least
    × ((path : List ℕ) → path_fault path ≡ None → BeginsWith front path → slice_cmp nat_cmp path least ≢ Less)

-- The literal front of a glob is the only path that it may fit.
abbrev pub IsLiteral : Said → Type 0
IsLiteral glob = (path : List ℕ) → IsFitted glob path → path ≡ literal_front glob.text

-- whether no byte of a node stands at the end
abbrev pub needs_node : List ℕ → Bool
needs_node front = length front == 0 || ends_with nat_eq front (46 ∷ [])

-- these bytes, and the least node behind them where they end in no node
abbrev pub least_text : List ℕ → List ℕ
least_text front = if needs_node front then front ++ 33 ∷ [] else front

-- Of these entries those whose paths fit, in their order.
abbrev pub Picks : {V : Type 0} → (List ℕ → Type 0) → List (List ℕ × V) → List (List ℕ × V) → Type 0
Picks fits [] hits = hits ≡ []
Picks {V} fits (entry ∷ entries) hits =
    (fits entry.0 × (rest : List (List ℕ × V)) × (hits ≡ entry ∷ rest) × Picks fits entries rest)
    ⊎ ((fits entry.0 → ⊥) × Picks fits entries hits)

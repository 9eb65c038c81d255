-- What a question about names tells.
use Rattle.std.specs.Prelude.{◌≡◌, ◌↔◌, ◌⊎◌, ◌<◌, ℕ, Contains, List, [], ◌∷◌, ◌++◌, None}
use Rattle.std.specs.List.Sorted.{IsStrictlySortedBy}
use Rattle.std.specs.Ordering.{nat_cmp}
use Rattle.std.specs.Cmp.Lexicographic.{slice_cmp}
use Rattle.metric_path.specs.Class.{class_of}
use Rattle.metric_path.specs.Path.{path_fault}
use Rattle.carbon_history.specs.declared.entry.Entry.{Entry}
use Rattle.carbon_history.specs.declared.entry.Entry.TheVariants.{Ask}
use Rattle.carbon_model.specs.State.{State}
use Rattle.carbon_model.specs.Found.{Finds, IsKnown}
use Rattle.carbon_model.specs.Replay.{replay}
use Rattle.shared_history.specs.Parts.{PassValue}
use Rattle.shared_store.specs.Asks.{new_number}
use Rattle.shared_store.specs.Passes.{Enters}

-- a text that is a path
abbrev pub IsPath : List ℕ → Type 0
IsPath path = path_fault path ≡ None

-- The pass asked a new question, which has one try: the last entry that it sees.
pub record AsksOnce (start : State) (passes now : ℕ) (old new : PassValue) : Type 0 where
  pub enters : Enters start passes (Ask old.number (new_number old) 1 now ∷ []) old new
  pub between : List Entry
  pub last : new.seen ≡ (old.seen ++ between) ++ Ask old.number (new_number old) 1 now ∷ []

-- It asked one, and these are the paths of all metrics of which at that entry points are pending or something is kept, in byte order.
pub record Names (start : State) (passes now : ℕ) (names : List (List ℕ)) (old new : PassValue) : Type 0 where
  pub asks : AsksOnce start passes now old new
  pub all : Finds (replay start new.seen) IsPath names

-- it was given up before the entry, or behind it
abbrev pub NamesPartly : State → ℕ → ℕ → PassValue → PassValue → Type 0
NamesPartly start passes now old new = Enters start passes [] old new ⊎ AsksOnce start passes now old new

-- ---- inside such a question

-- a legal path of a metric that is pending or kept
pub record IsNamed (s : State) (path : List ℕ) : Type 0 where
  pub legal : IsPath path
  pub known : IsKnown s path

-- these are the names of all metrics of the classes below one
pub record NamesBelow (class : ℕ) (s : State) (names : List (List ℕ)) : Type 0 where
  pub all : (path : List ℕ) → Contains names path ↔ ((class_of path < class) × IsNamed s path)

-- these are the names of all metrics
pub record NamesUp (s : State) (names : List (List ℕ)) : Type 0 where
  pub all : (path : List ℕ) → Contains names path ↔ IsNamed s path

-- the same names in byte order, each once
pub record PutsNames (names sorted : List (List ℕ)) : Type 0 where
  pub in_order : IsStrictlySortedBy (slice_cmp nat_cmp) sorted
  pub all : (path : List ℕ) → Contains sorted path ↔ Contains names path

-- the names of some classes in one list
abbrev pub joined : List (List (List ℕ)) → List (List ℕ)
joined [] = []
joined (names ∷ others) = names ++ joined others

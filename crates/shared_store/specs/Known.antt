-- What is known beforehand of the names of the classes.
use Rattle.std.specs.Prelude.{◌≡◌, ◌≢◌, ◌<◌, ℕ, All, List, [], Vec, get_or, length, map, slice_index_or}
use Rattle.std.specs.Cmp.Lexicographic.{slice_cmp}
use Rattle.std.specs.List.Sorted.{IsStrictlySortedBy}
use Rattle.std.specs.Ordering.{nat_cmp}
use Rattle.std.specs.declared.cmp.Ordering.TheVariants.{Less}
use Rattle.std.specs.Sync.Mutex.{mutex_guard_value}
use Rattle.std.specs.declared.sync.MutexGuard.{MutexGuard}
use Rattle.carbon_history.specs.declared.entry.Entry.{Entry}
use Rattle.carbon_history.specs.Entries.{about_class}
use Rattle.carbon_model.specs.State.{State}
use Rattle.carbon_model.specs.Found.{IsKnown}
use Rattle.carbon_model.specs.Replay.{replay}
use Rattle.carbon_model.specs.RingFiles.{IsOfClass}
use Rattle.render_need.specs.declared.need.Need.{Need}
use Rattle.shared_history.specs.declared.view.Look.{Look}
use Rattle.shared_history.specs.Parts.{PassValue}
use Rattle.shared_history.specs.Views.{look_at}
use Rattle.shared_store.specs.Asking.{OnlyLooks}
use Rattle.shared_store.specs.Desks.{DeskValue}

-- a need, and the names of each class that its glob was held against
pub record WantedValue : Type 0 where
  pub need : Need
  pub names : List (List (List ℕ))

abbrev pub needs_of : List WantedValue → List Need
needs_of wanted = map (λ w. w.need) wanted

-- ---- names of a class

abbrev pub IsInOrder : List (List ℕ) → Type 0
IsInOrder names = IsStrictlySortedBy (slice_cmp nat_cmp) names

-- a metric of a class that is pending or kept after these entries about it
pub record IsKnownAfter (start : State) (class : ℕ) (list : List Entry) (path : List ℕ) : Type 0 where
  pub here : IsOfClass class path
  pub known : IsKnown (replay start list) path

abbrev pub AreKnownAfter : State → ℕ → List Entry → List (List ℕ) → Type 0
AreKnownAfter start class list names = All (IsKnownAfter start class list) names

-- names of a class from one on, in byte order, that were known after these entries about it
pub record IsPieceOf (start : State) (class : ℕ) (list : List Entry) (least : List ℕ) (names : List (List ℕ)) : Type 0 where
  pub known : AreKnownAfter start class list names
  pub order : IsInOrder names
  pub behind : All (λ path. slice_cmp nat_cmp path least ≢ Less) names

-- names of a class, in byte order, that were known when a pass last looked at it
pub record KnowsOf (start : State) (looks : List Look) (class : ℕ) (names : List (List ℕ)) : Type 0 where
  pub known : AreKnownAfter start class (look_at class looks).list names
  pub order : IsInOrder names

-- A pass looked at a class, and at no other.
pub record LooksAlone (class : ℕ) (old new : PassValue) : Type 0 where
  pub only : OnlyLooks old new
  pub others : (other : ℕ) → other ≢ class → look_at other new.looks ≡ look_at other old.looks

-- ---- names of all classes

abbrev pub lists_of : {A : Type 0} → List (Vec (List ℕ) A) → List (List (List ℕ))
lists_of names = map (λ list. list.items) names

abbrev pub AreInOrder : {A : Type 0} → List (Vec (List ℕ) A) → Type 0
AreInOrder names = All (λ list. IsInOrder list.items) names

-- each was known when a pass last looked at its class
pub record KnowsBy (start : State) (looks : List Look) (names : List (List (List ℕ))) : Type 0 where
  pub each : (k : ℕ) → AreKnownAfter start k (look_at k looks).list (get_or names k [])

-- each is known after this history
pub record KnowsIn (start : State) (list : List Entry) (names : List (List (List ℕ))) : Type 0 where
  pub each : (k : ℕ) → k < 16 → AreKnownAfter start k (about_class k list) (get_or names k [])

-- each is known at the desk of its class
abbrev pub KnowsHere : State → DeskValue → List (List (List ℕ)) → Type 0
KnowsHere start desk names = AreKnownAfter start desk.class desk.list (get_or names desk.class [])

pub record KnowsAt (start : State) (desks : List (MutexGuard DeskValue)) (names : List (List (List ℕ))) : Type 0 where
  pub each : (k : ℕ) (d : MutexGuard DeskValue) → k < length desks
      → KnowsHere start (mutex_guard_value (slice_index_or desks k d)) names

-- the same of the names of all needs
abbrev pub AllKnow : (List (List (List ℕ)) → Type 0) → List WantedValue → Type 0
AllKnow P wanted = All (λ w. P w.names) wanted

-- What a question tells.
use Rattle.std.specs.Prelude.{◌≡◌, ◌⊎◌, ℕ, zero, suc, ◌<◌, ◌+◌, List, [], ◌∷◌, ◌++◌, Contains, Option, Result, Ok, Err}
use mathlib.Core.List.{IsPrefix}
use Rattle.outside_io.specs.Image.{Image}
use Rattle.metric_path.specs.Class.{class_of}
use Rattle.carbon_history.specs.declared.entry.Entry.{Entry}
use Rattle.carbon_history.specs.declared.entry.Entry.TheVariants.{Drain, Ask, Fault}
use Rattle.shared_history.specs.Parts.{PassValue, greatest_ask, own_entries}
use Rattle.carbon_model.specs.State.{State}
use Rattle.carbon_model.specs.Replay.{replay}
use Rattle.render_need.specs.declared.need.Need.{Need}
use Rattle.render_need.specs.Rows.{Rows}
use Rattle.found_rows.specs.Rows.{HasRows, HasTooManyPoints, HasTooManySeries, IsReadFor}
use Rattle.shared_store.specs.declared.ask_fault.AskFault.{AskFault}
use Rattle.shared_store.specs.declared.ask_fault.AskFault.TheVariants.{DiskFault, TooManySeries, TooManyPoints, NoMemory}
use Rattle.shared_store.specs.Passes.{Enters}

-- the number of the next question of a pass
abbrev pub new_number : PassValue → ℕ
new_number pass = greatest_ask (own_entries pass) + 1

-- the entries of the first tries of a question, so many
abbrev pub tries_of : ℕ → ℕ → ℕ → ℕ → List Entry
tries_of pass number now zero = []
tries_of pass number now (suc count) =
    tries_of pass number now count ++ Ask pass number (suc count) now ∷ []

-- among these entries is a drain of a metric that is read for the needs in a state
pub record HasMoved (s : State) (now : ℕ) (needs : List Need) (entries : List Entry) : Type 0 where
  pub path : List ℕ
  pub read : IsReadFor s now needs path
  pub pass : ℕ
  pub at : ℕ
  pub drained : Contains entries (Drain pass path at)

-- The history when a question was tried, and then so often again: it goes on from what the pass
-- had seen and ends with the last try. Before each further try a metric was drained that is read
-- for the needs at the try before it.
abbrev pub AsksAgain : State → ℕ → List Need → ℕ → ℕ → List Entry → ℕ → List Entry → Type 0
AsksAgain start now needs pass number before zero seen =
    (between : List Entry) × (seen ≡ (before ++ between) ++ Ask pass number 1 now ∷ [])
AsksAgain start now needs pass number before (suc again) seen =
    (earlier : List Entry) × (between : List Entry)
    × (AsksAgain start now needs pass number before again earlier
    × (HasMoved (replay start earlier) now needs between
    × (seen ≡ (earlier ++ between) ++ Ask pass number (suc (suc again)) now ∷ [])))

-- The question has one to three tries, of which the last is the last entry that the pass sees; what
-- it is answered holds of the state there.
pub record AsksTo (start : State) (passes now : ℕ) (needs : List Need) (old new : PassValue)
    (answers : State → Type 0) : Type 0 where
  pub again : ℕ
  pub few : again < 3
  pub enters : Enters start passes (tries_of old.number (new_number old) now (suc again)) old new
  pub tries : AsksAgain start now needs old.number (new_number old) old.seen again new.seen
  pub answer : answers (replay start new.seen)

-- After the last try the disk of a class failed, which has a metric that is read for the needs
-- then. That is the last entry that the pass sees.
pub record AsksToFault (start : State) (passes now : ℕ) (needs : List Need) (class : ℕ)
    (old new : PassValue) : Type 0 where
  pub again : ℕ
  pub few : again < 3
  pub enters : Enters start passes
      (tries_of old.number (new_number old) now (suc again) ++ Fault old.number class ∷ []) old new
  pub tried : List Entry
  pub between : List Entry
  pub tries : AsksAgain start now needs old.number (new_number old) old.seen again tried
  pub last : new.seen ≡ (tried ++ between) ++ Fault old.number class ∷ []
  pub path : List ℕ
  pub read : IsReadFor (replay start tried) now needs path
  pub here : class_of path ≡ class

-- The question was given up after one to three tries, which were made as those of any other.
pub record AsksPart (start : State) (passes now : ℕ) (needs : List Need) (old new : PassValue) :
    Type 0 where
  pub again : ℕ
  pub few : again < 3
  pub enters : Enters start passes (tries_of old.number (new_number old) now (suc again)) old new
  pub tried : List Entry
  pub tries : AsksAgain start now needs old.number (new_number old) old.seen again tried
  pub begins : IsPrefix tried new.seen

-- it was given up before the first try, or behind the last
abbrev pub AsksPartly : State → ℕ → ℕ → List Need → PassValue → PassValue → Type 0
AsksPartly start passes now needs old new =
    Enters start passes [] old new ⊎ AsksPart start passes now needs old new

-- what each answer tells
abbrev pub Asks : State → (ℕ → Option Image) → ℕ → ℕ → List Need → Result Rows AskFault
    → PassValue → PassValue → Type 0
Asks start told passes now needs (Ok rows) old new =
    AsksTo start passes now needs old new (λ s. HasRows told s now needs rows)
Asks start told passes now needs (Err (TooManySeries count)) old new =
    AsksTo start passes now needs old new (λ s. HasTooManySeries s now needs count)
Asks start told passes now needs (Err (TooManyPoints count)) old new =
    AsksTo start passes now needs old new (λ s. HasTooManyPoints s now needs count)
Asks start told passes now needs (Err (DiskFault class)) old new =
    AsksToFault start passes now needs class old new
Asks start told passes now needs (Err NoMemory) old new = AsksPartly start passes now needs old new

-- The locks of the files that are held through the reads of a question.
use Rattle.std.specs.Prelude.{◌≡◌, ◌⊎◌, ℕ, ◌<◌, List, length, slice_index_or, Option, None, Some}
use Rattle.std.specs.Sync.Mutex.{mutex_guard_value}
use Rattle.std.specs.declared.sync.MutexGuard.{MutexGuard}
use Rattle.metric_path.specs.Class.{class_of}
use Rattle.carbon_history.specs.declared.entry.Entry.{Entry}
use Rattle.carbon_history.specs.Entries.{about_class}
use Rattle.carbon_model.specs.State.{State}
use Rattle.carbon_model.specs.Replay.{replay}
use Rattle.shard_core.specs.declared.looked.Looked.{Looked}
use Rattle.shared_store.specs.Asking.{AreAllDesksOf, IsLookAt}
use Rattle.shared_store.specs.Desks.{DeskValue}
use Rattle.shared_store.specs.Locks.{FilesValue, OnlyPuts}

-- ---- the place of a class: the lock of its files, where that is held

-- The lock of the files of a class is there, and no drain of this history was entered since both locks were held: its entries about the class are
-- those of then, and behind them none that needs both.
pub record IsFilesOf (k : ℕ) (history : List Entry) (files : FilesValue) : Type 0 where
  pub class : files.class ≡ k
  pub since : OnlyPuts files.list (about_class k history)

abbrev pub IsPlaceOf : ℕ → List Entry → Option (MutexGuard FilesValue) → Type 0
IsPlaceOf k list None = Unit {0}
IsPlaceOf k list (Some files) = IsFilesOf k list (mutex_guard_value files)

abbrev pub IsPlaceAt : ℕ → Option (MutexGuard FilesValue) → Type 0
IsPlaceAt k None = Unit {0}
IsPlaceAt k (Some files) = (mutex_guard_value files).class ≡ k

-- it was held with that of this desk: since then the desk did no more than a desk does alone
abbrev pub IsMet : DeskValue → Option (MutexGuard FilesValue) → Type 0
IsMet desk None = Unit {0}
IsMet desk (Some files) = ((mutex_guard_value files).class ≡ desk.class) × OnlyPuts (mutex_guard_value files).list desk.list

-- ---- the places of all classes

abbrev pub AreFilesOf : List Entry → List (Option (MutexGuard FilesValue)) → Type 0
AreFilesOf list held =
    (k : ℕ) (d : Option (MutexGuard FilesValue)) → k < length held → IsPlaceOf k list (slice_index_or held k d)

abbrev pub AreFiles : List (Option (MutexGuard FilesValue)) → Type 0
AreFiles held =
    (k : ℕ) (d : Option (MutexGuard FilesValue)) → k < length held → IsPlaceAt k (slice_index_or held k d)

-- there are places of all classes in order, or none
abbrev pub IsHeld : List Entry → List (Option (MutexGuard FilesValue)) → Type 0
IsHeld list held = AreFilesOf list held × ((length held ≡ 0) ⊎ (length held ≡ 16))

-- as many, of which the same holds, and none is empty that was not
pub record KeepsFilesHeld (list : List Entry) (old new : List (Option (MutexGuard FilesValue))) : Type 0 where
  pub files : AreFilesOf list new
  pub many : length new ≡ length old
  pub none : (k : ℕ) (d : Option (MutexGuard FilesValue)) → slice_index_or new k d ≡ None → slice_index_or old k d ≡ None

-- ---- what is read

-- where there are places, nothing is kept of the metric but where the files of its class are held
abbrev pub IsCovered : State → List (Option (MutexGuard FilesValue)) → Looked → Type 0
IsCovered s held looked =
    (d : Option (MutexGuard FilesValue)) → class_of looked.path < length held → slice_index_or held (class_of looked.path) d ≡ None
    → s.kept looked.path ≡ None

-- it is a look at a metric in a state after some history, of which these are the desks
pub record IsLookIn (start : State) (desks : List (MutexGuard DeskValue)) (looked : Looked) : Type 0 where
  pub list : List Entry
  pub are : AreAllDesksOf list desks
  pub look : IsLookAt (replay start list) looked

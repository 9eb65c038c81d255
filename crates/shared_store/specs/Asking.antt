-- Inside a question.
use Rattle.std.specs.Prelude.{◌≡◌, ◌≢◌, ◌↔◌, ◌⊎◌, ℕ, ℤ, zero, suc, ◌<◌, ◌≤◌, true, All, Contains, List, [], ◌∷◌, ◌++◌, length, slice_index_or, Option, None, IfSome, Result, Ok, Err}
use Rattle.std.specs.List.{sum_by}
use Rattle.std.specs.List.Sorted.{IsStrictlySortedBy}
use Rattle.std.specs.Ordering.{nat_cmp}
use Rattle.std.specs.Cmp.Lexicographic.{slice_cmp}
use Rattle.std.specs.Sync.Mutex.{mutex_guard_value}
use Rattle.std.specs.declared.sync.MutexGuard.{MutexGuard}
use mathlib.Core.List.{IsPrefix}
use Rattle.outside_io.specs.Image.{Image}
use Rattle.metric_path.specs.Class.{class_of}
use Rattle.metric_path.specs.Path.{path_fault}
use Rattle.fixed_num.specs.Moment.{is_moment}
use Rattle.point_cache.specs.Points.{IsRising}
use Rattle.ring_format.specs.Layout.{LayoutValue}
use Rattle.archive_update.specs.Batch.{step_of}
use Rattle.series_fetch.specs.declared.range.Window.{Window}
use Rattle.series_fetch.specs.declared.range.Window.TheVariants.{Empty, Range}
use Rattle.series_fetch.specs.Window.{HasBuckets, IsWindow}
use Rattle.series_fetch.specs.Shown.{shown}
use Rattle.carbon_history.specs.declared.entry.Entry.{Entry}
use Rattle.carbon_history.specs.declared.entry.Entry.TheVariants.{Drain, Fault}
use Rattle.carbon_history.specs.Entries.{about_class}
use Rattle.carbon_model.specs.State.{State, layout_of, no_rings, points_in, rings_of}
use Rattle.carbon_model.specs.Found.{IsKnown}
use Rattle.carbon_model.specs.Replay.{replay}
use Rattle.shard_core.specs.Looks.{bucket_count, looked_paths}
use Rattle.shard_core.specs.Reads.{ShowsPending}
use Rattle.shard_core.specs.declared.looked.Looked.{Looked}
use Rattle.shard_core.specs.declared.looked.LookFault.{LookFault}
use Rattle.shard_core.specs.declared.looked.LookFault.TheVariants as look
use Rattle.series_set.specs.Series.{SeriesValue}
use Rattle.render_need.specs.declared.need.Need.{Need}
use Rattle.render_need.specs.Rows.{IsEarly, Rows, latest_row_end}
use Rattle.found_rows.specs.Rows.{FindsFew, HasRows, HasTooManyPoints, HasTooManySeries, IsAsked, IsReadFor, most_points, window_of}
use Rattle.shared_history.specs.Events.{ask_by}
use Rattle.shared_history.specs.Parts.{PassValue, own_entries}
use Rattle.shared_history.specs.Views.{look_at}
use Rattle.shared_store.specs.declared.ask_fault.AskFault.{AskFault}
use Rattle.shared_store.specs.declared.ask_fault.AskFault.TheVariants.{DiskFault, TooManySeries, TooManyPoints, NoMemory}
use Rattle.shared_store.specs.declared.try_end.TryEnd.{TryEnd}
use Rattle.shared_store.specs.declared.try_end.TryEnd.TheVariants.{Moved, Ended}
use Rattle.shared_store.specs.Asks.{AsksAgain, HasMoved, new_number, tries_of}
use Rattle.shared_store.specs.Desks.{DeskValue}
use Rattle.shared_store.specs.Passes.{Enters, LooksOn, SameLooks}

-- two lists of one length, of which each two elements at one place belong together
abbrev pub Pairwise : {A B : Type 0} → (A → B → Type 0) → List A → List B → Type 0
Pairwise P [] ys = ys ≡ []
Pairwise P (x ∷ xs) [] = ⊥
Pairwise P (x ∷ xs) (y ∷ ys) = P x y × Pairwise P xs ys

-- ---- passes

-- The pass entered nothing and saw no more; its looks are no less than they were.
pub record OnlyLooks (old new : PassValue) : Type 0 where
  pub table : new.table ≡ old.table
  pub number : new.number ≡ old.number
  pub seen : new.seen ≡ old.seen
  pub on : LooksOn old new

-- It looked at a class, which has these entries.
pub record MarksClass (class : ℕ) (list : List Entry) (old new : PassValue) : Type 0 where
  pub only : OnlyLooks old new
  pub before : IsPrefix (look_at class old.looks).list list
  pub has : (look_at class new.looks).list ≡ list
  pub others : (other : ℕ) → other ≢ class → look_at other new.looks ≡ look_at other old.looks

-- what a pass had found of a class before begins the class's part of the history
pub record HadSeen (list : List Entry) (old : PassValue) (k : ℕ) : Type 0 where
  pub begins : IsPrefix (look_at k old.looks).list (about_class k list)

-- It looked at all classes: what it had found there before begins their parts of the history.
pub record MarksAll (list : List Entry) (old new : PassValue) : Type 0 where
  pub only : OnlyLooks old new
  pub had : (k : ℕ) → k < 16 → HadSeen list old k

-- It entered a try of a question, the last entry of the history, of which these were the others.
pub record EntersTry (start : State) (passes : ℕ) (list : List Entry) (entry : Entry)
    (old new : PassValue) : Type 0 where
  pub enters : Enters start passes (entry ∷ []) old new
  pub begins : IsPrefix old.seen list
  pub seen : new.seen ≡ list ++ entry ∷ []
  pub same : SameLooks old new

-- It entered a try behind what it saw meanwhile.
pub record EntersBehind (start : State) (passes : ℕ) (entry : Entry)
    (old new : PassValue) : Type 0 where
  pub between : List Entry
  pub seen : new.seen ≡ (old.seen ++ between) ++ entry ∷ []
  pub enters : Enters start passes (entry ∷ []) old new
  pub same : SameLooks old new

-- It entered a try, and then looked at all classes.
pub record EntersTries (start : State) (passes now try : ℕ) (old new : PassValue) : Type 0 where
  pub between : List Entry
  pub seen : new.seen ≡ (old.seen ++ between) ++ ask_by old try now ∷ []
  pub enters : Enters start passes (ask_by old try now ∷ []) old new
  pub had : (k : ℕ) → k < 16 → HadSeen (old.seen ++ between) old k
  pub on : LooksOn old new

-- It entered nothing and saw more; its looks are no less than they were.
pub record SeesMore (old new : PassValue) : Type 0 where
  pub table : new.table ≡ old.table
  pub number : new.number ≡ old.number
  pub begins : IsPrefix old.seen new.seen
  pub once : own_entries new ≡ own_entries old
  pub on : LooksOn old new

-- It did so, and looked at all classes.
pub record SeesDesks (old new : PassValue) : Type 0 where
  pub more : SeesMore old new
  pub had : (k : ℕ) → k < 16 → HadSeen new.seen old k

-- The disk of a class failed; that is the last entry that the pass sees.
pub record EntersFault (start : State) (passes class : ℕ) (old new : PassValue) : Type 0 where
  pub enters : Enters start passes (Fault old.number class ∷ []) old new
  pub between : List Entry
  pub last : new.seen ≡ (old.seen ++ between) ++ Fault old.number class ∷ []
  pub on : LooksOn old new

-- by the pass's last look at its class, a metric was drained behind all that the pass has seen
pub record WasDrained (path : List ℕ) (pass : PassValue) : Type 0 where
  pub rest : List Entry
  pub list : (look_at (class_of path) pass.looks).list
      ≡ about_class (class_of path) pass.seen ++ rest
  pub by : ℕ
  pub at : ℕ
  pub drained : Contains rest (Drain by path at)

-- ---- desks

-- the lock of each class is there, and its entries are those about the class of this history
pub record IsDeskOf (k : ℕ) (history : List Entry) (desk : DeskValue) : Type 0 where
  pub class : desk.class ≡ k
  pub list : desk.list ≡ about_class k history

abbrev pub AreDesksOf : List Entry → List (MutexGuard DeskValue) → Type 0
AreDesksOf list desks =
    (k : ℕ) (d : MutexGuard DeskValue) → k < length desks
    → IsDeskOf k list (mutex_guard_value (slice_index_or desks k d))

-- the desks of the first classes, so many, in order
abbrev pub AreDesks : List (MutexGuard DeskValue) → Type 0
AreDesks desks =
    (k : ℕ) (d : MutexGuard DeskValue) → k < length desks
    → (mutex_guard_value (slice_index_or desks k d)).class ≡ k

-- the locks of all classes are held
abbrev pub AreAllDesksOf : List Entry → List (MutexGuard DeskValue) → Type 0
AreAllDesksOf list desks = AreDesksOf list desks × (length desks ≡ 16)

-- ---- counts

-- how many buckets a look is about
unfoldable pub buckets_of : Looked → ℕ
buckets_of looked = bucket_count looked.layout looked.window

-- ---- looks

-- what a read needs of a look, whatever the shard is
pub record IsReadable (looked : Looked) : Type 0 where
  pub window : IsWindow looked.layout looked.window
  pub rising : IsRising looked.pending
  pub moments : All (λ p. is_moment p.0 ≡ true) looked.pending

-- a look at a metric that a state knows, as the state has it
pub record IsLookAt (s : State) (looked : Looked) : Type 0 where
  pub legal : path_fault looked.path ≡ None
  pub known : IsKnown s looked.path
  pub layout : looked.layout ≡ layout_of s looked.path
  pub pending : looked.pending ≡ points_in s looked.path
  pub drains : looked.drains ≡ s.drains looked.path
  pub readable : IsReadable looked

-- a look that has buckets, no more than one question may have values
pub record IsShortLook (s : State) (looked : Looked) : Type 0 where
  pub look : IsLookAt s looked
  pub some : looked.window ≢ Empty
  pub few : buckets_of looked ≤ most_points

-- a look at a metric that a need finds
pub record IsLookOf (s : State) (now : ℕ) (need : Need) (looked : Looked) : Type 0 where
  pub look : IsLookAt s looked
  pub asked : IsAsked s now need looked.path
  pub window : looked.window ≡ window_of s now need looked.path

-- these are looks at all metrics of the classes below one that a need finds
pub record LooksBelow (class : ℕ) (s : State) (now : ℕ) (need : Need)
    (found : List Looked) : Type 0 where
  pub all : (path : List ℕ) → Contains (looked_paths found) path
      ↔ ((class_of path < class) × (IsAsked s now need path × IsKnown s path))
  pub each : All (IsLookOf s now need) found

-- these are looks at all metrics that a need finds
pub record LooksUp (s : State) (now : ℕ) (need : Need) (found : List Looked) : Type 0 where
  pub all : (path : List ℕ) → Contains (looked_paths found) path
      ↔ (IsAsked s now need path × IsKnown s path)
  pub each : All (IsLookOf s now need) found

abbrev pub InOrder : List Looked → Type 0
InOrder found = IsStrictlySortedBy (slice_cmp nat_cmp) (looked_paths found)

-- the same looks in byte order of the paths, each path once
pub record PutsInOrder (found sorted : List Looked) : Type 0 where
  pub in_order : InOrder sorted
  pub paths : (path : List ℕ) → Contains (looked_paths sorted) path
      ↔ Contains (looked_paths found) path
  pub from : (looked : Looked) → Contains sorted looked → Contains found looked

-- ---- counts of all

unfoldable pub set_buckets : List Looked → ℕ
set_buckets found = sum_by buckets_of found

unfoldable pub all_buckets : List (List Looked) → ℕ
all_buckets sets = sum_by set_buckets sets

unfoldable pub all_series : List (List Looked) → ℕ
all_series sets = sum_by length sets

-- what the count of what the needs find tells
abbrev pub Counts : State → ℕ → List Need → Result (Unit {0}) AskFault → Type 0
Counts s now needs (Ok u) = FindsFew s now needs
Counts s now needs (Err (TooManySeries count)) = HasTooManySeries s now needs count
Counts s now needs (Err (TooManyPoints count)) = HasTooManyPoints s now needs count
Counts s now needs (Err (DiskFault class)) = ⊥
Counts s now needs (Err NoMemory) = Unit {0}

-- the needs find few metrics, and these are looks at all of them
pub record FindsSets (s : State) (now : ℕ) (needs : List Need) (sets : List (List Looked)) : Type 0 where
  pub few : FindsFew s now needs
  pub up : Pairwise (LooksUp s now) needs sets

-- some needs find so at some moment
pub record AreFound (s : State) (sets : List (List Looked)) : Type 0 where
  pub now : ℕ
  pub needs : List Need
  pub finds : FindsSets s now needs sets

-- ---- reads

-- Values of a metric that was looked at: its pending points over some archives, over none where a
-- state keeps nothing of it, and over those that it keeps where the disk told at the opening what
-- it held.
pub record ShowsAt (told : ℕ → Option Image) (s : State) (looked : Looked)
    (values : List (Option ℤ)) : Type 0 where
  pub pending : ShowsPending looked.layout looked.pending looked.window values
  pub bare : s.kept looked.path ≡ None
      → values ≡ shown looked.layout no_rings looked.pending looked.window
  pub kept : IfSome (told (class_of looked.path))
      (λ opening. values
      ≡ shown looked.layout (rings_of (s.kept looked.path)) looked.pending looked.window)

-- The values of a metric of which nothing is kept: what its pending points show, as many as the
-- window has buckets.
pub record ShowsBare (looked : Looked) (values : List (Option ℤ)) : Type 0 where
  pub count : HasBuckets looked.layout looked.window (length values)
  pub bare : values ≡ shown looked.layout no_rings looked.pending looked.window

-- what each answer of a read tells
abbrev pub ReadsAt : State → (ℕ → Option Image) → ℕ → Looked
    → Result (List (Option ℤ)) LookFault → PassValue → PassValue → Type 0
ReadsAt start told passes looked (Ok values) old new =
    OnlyLooks old new × ShowsAt told (replay start old.seen) looked values
ReadsAt start told passes looked (Err (look.Moved drains)) old new =
    OnlyLooks old new × WasDrained looked.path new
ReadsAt start told passes looked (Err look.DiskFault) old new =
    EntersFault start passes (class_of looked.path) old new
ReadsAt start told passes looked (Err look.NoMemory) old new = OnlyLooks old new

-- the end of a try that the end of a read is
abbrev pub EndsAs : ℕ → Result (List (Option ℤ)) LookFault → Result (List (Option ℤ)) TryEnd
    → Type 0
EndsAs class (Ok values) result = result ≡ Ok values
EndsAs class (Err (look.Moved drains)) result = result ≡ Err Moved
EndsAs class (Err look.DiskFault) result = result ≡ Err (Ended (DiskFault class))
EndsAs class (Err look.NoMemory) result = result ≡ Err (Ended NoMemory)

-- whether a read ended well, and whether it found that the metric has moved
abbrev pub ReadsWell : Result (List (Option ℤ)) LookFault → Type 0
ReadsWell (Ok values) = Unit {0}
ReadsWell (Err fault) = ⊥

abbrev pub HasNotMoved : Result (List (Option ℤ)) LookFault → Type 0
HasNotMoved (Ok values) = Unit {0}
HasNotMoved (Err (look.Moved drains)) = ⊥
HasNotMoved (Err look.DiskFault) = Unit {0}
HasNotMoved (Err look.NoMemory) = Unit {0}

-- the start and the step of the series of a window
abbrev pub HasGrid : LayoutValue → Window → SeriesValue → Type 0
HasGrid layout Empty series = ⊥
HasGrid layout (Range i first end) series =
    (series.start ≡ first) × (series.step ≡ step_of layout.archives i)

-- The series of a metric that was looked at, with these values.
pub record IsSeriesOf (looked : Looked) (shows : List (Option ℤ))
    (series : SeriesValue) : Type 0 where
  pub path : series.path ≡ looked.path
  pub named : series.name ≡ series.path
  pub grid : HasGrid looked.layout looked.window series
  pub values : series.values ≡ shows
  pub count : length series.values ≡ buckets_of looked
  pub early : IsEarly latest_row_end series

-- The series of a metric that was looked at, in a state.
pub record IsSeriesAt (told : ℕ → Option Image) (s : State) (looked : Looked)
    (series : SeriesValue) : Type 0 where
  pub path : series.path ≡ looked.path
  pub named : series.name ≡ series.path
  pub grid : HasGrid looked.layout looked.window series
  pub values : ShowsAt told s looked series.values
  pub count : length series.values ≡ buckets_of looked
  pub early : IsEarly latest_row_end series

-- one of some paths was drained behind all that the pass has seen
pub record HasMovedOn (within : List ℕ → Type 0) (pass : PassValue) : Type 0 where
  pub path : List ℕ
  pub one : within path
  pub was : WasDrained path pass

-- the disk of the class of one of them failed
pub record FailsFor (within : List ℕ → Type 0) (start : State) (passes class : ℕ)
    (old new : PassValue) : Type 0 where
  pub path : List ℕ
  pub one : within path
  pub here : class_of path ≡ class
  pub fault : EntersFault start passes class old new

-- how the reads of metrics of some paths may end early
abbrev pub Stops : (List ℕ → Type 0) → State → ℕ → TryEnd → PassValue → PassValue → Type 0
Stops within start passes Moved old new = OnlyLooks old new × HasMovedOn within new
Stops within start passes (Ended (DiskFault class)) old new =
    FailsFor within start passes class old new
Stops within start passes (Ended NoMemory) old new = OnlyLooks old new
Stops within start passes (Ended (TooManySeries count)) old new = ⊥
Stops within start passes (Ended (TooManyPoints count)) old new = ⊥

abbrev pub IsNoMove : {A : Type 0} → Result A TryEnd → Type 0
IsNoMove (Ok x) = Unit {0}
IsNoMove (Err Moved) = ⊥
IsNoMove (Err (Ended fault)) = Unit {0}

-- one of several lists of looks has the path
pub record IsWithin (sets : List (List Looked)) (path : List ℕ) : Type 0 where
  pub set : List Looked
  pub there : Contains sets set
  pub one : Contains (looked_paths set) path

-- what the read of one metric tells, of the metrics that one need found, and of those that all
-- found
abbrev pub ReadsOne : State → (ℕ → Option Image) → ℕ → Looked → Result (List (Option ℤ)) TryEnd
    → PassValue → PassValue → Type 0
ReadsOne start told passes looked (Ok values) old new =
    OnlyLooks old new × ShowsAt told (replay start old.seen) looked values
ReadsOne start told passes looked (Err end) old new =
    Stops (λ path. looked.path ≡ path) start passes end old new

abbrev pub ReadsSet : State → (ℕ → Option Image) → ℕ → List Looked
    → Result (List SeriesValue) TryEnd → PassValue → PassValue → Type 0
ReadsSet start told passes found (Ok set) old new =
    OnlyLooks old new × Pairwise (IsSeriesAt told (replay start old.seen)) found set
ReadsSet start told passes found (Err end) old new =
    Stops (Contains (looked_paths found)) start passes end old new

abbrev pub ReadsAll : State → (ℕ → Option Image) → ℕ → List (List Looked) → Result Rows TryEnd
    → PassValue → PassValue → Type 0
ReadsAll start told passes sets (Ok rows) old new =
    OnlyLooks old new × Pairwise (Pairwise (IsSeriesAt told (replay start old.seen))) sets rows
ReadsAll start told passes sets (Err end) old new = Stops (IsWithin sets) start passes end old new

-- what the answer after the entry of a try tells
abbrev pub AnswersTry : State → (ℕ → Option Image) → ℕ → ℕ → List Need → Result Rows TryEnd
    → PassValue → PassValue → Type 0
AnswersTry start told passes now needs (Ok rows) old new =
    OnlyLooks old new × HasRows told (replay start old.seen) now needs rows
AnswersTry start told passes now needs (Err Moved) old new =
    OnlyLooks old new × HasMovedOn (IsReadFor (replay start old.seen) now needs) new
AnswersTry start told passes now needs (Err (Ended (TooManySeries count))) old new =
    OnlyLooks old new × HasTooManySeries (replay start old.seen) now needs count
AnswersTry start told passes now needs (Err (Ended (TooManyPoints count))) old new =
    OnlyLooks old new × HasTooManyPoints (replay start old.seen) now needs count
AnswersTry start told passes now needs (Err (Ended (DiskFault class))) old new =
    FailsFor (IsReadFor (replay start old.seen) now needs) start passes class old new
AnswersTry start told passes now needs (Err (Ended NoMemory)) old new = OnlyLooks old new

-- ---- tries

-- The pass entered a try, behind what it saw meanwhile. If a metric that was found at the try
-- before had moved on, it was drained meanwhile.
pub record Tries (start : State) (passes now : ℕ) (needs : List Need) (try : ℕ)
    (old new : PassValue) : Type 0 where
  pub between : List Entry
  pub seen : new.seen ≡ (old.seen ++ between) ++ ask_by old try now ∷ []
  pub enters : Enters start passes (ask_by old try now ∷ []) old new
  pub since : HasMovedOn (IsReadFor (replay start old.seen) now needs) old
      → HasMoved (replay start old.seen) now needs between

-- the disk failed behind it
pub record TriesToFault (start : State) (passes now : ℕ) (needs : List Need) (try class : ℕ)
    (old new : PassValue) : Type 0 where
  pub entered : PassValue
  pub tries : Tries start passes now needs try old entered
  pub fails : FailsFor (IsReadFor (replay start entered.seen) now needs) start passes class
      entered new

-- it was given up before the entry, or behind it
abbrev pub GivesUp : State → ℕ → ℕ → List Need → ℕ → PassValue → PassValue → Type 0
GivesUp start passes now needs try old new =
    Enters start passes [] old new ⊎ Tries start passes now needs try old new

-- what each end of a try tells; a third one does not find that a metric has moved
abbrev pub TriesTo : State → (ℕ → Option Image) → ℕ → ℕ → List Need → ℕ → Result Rows TryEnd
    → PassValue → PassValue → Type 0
TriesTo start told passes now needs try (Ok rows) old new =
    Tries start passes now needs try old new × HasRows told (replay start new.seen) now needs rows
TriesTo start told passes now needs try (Err Moved) old new =
    Tries start passes now needs try old new
    × (HasMovedOn (IsReadFor (replay start new.seen) now needs) new × (try < 3))
TriesTo start told passes now needs try (Err (Ended (TooManySeries count))) old new =
    Tries start passes now needs try old new
    × HasTooManySeries (replay start new.seen) now needs count
TriesTo start told passes now needs try (Err (Ended (TooManyPoints count))) old new =
    Tries start passes now needs try old new
    × HasTooManyPoints (replay start new.seen) now needs count
TriesTo start told passes now needs try (Err (Ended (DiskFault class))) old new =
    TriesToFault start passes now needs try class old new
TriesTo start told passes now needs try (Err (Ended NoMemory)) old new =
    GivesUp start passes now needs try old new

-- ---- several tries

-- these tries of a question were made, one after the other
pub record AsksSoFar (start : State) (passes now : ℕ) (needs : List Need) (again : ℕ)
    (old new : PassValue) : Type 0 where
  pub enters : Enters start passes (tries_of old.number (new_number old) now (suc again)) old new
  pub tries : AsksAgain start now needs old.number (new_number old) old.seen again new.seen

-- before a try, so many were made, at the last of which a metric moved on
abbrev pub SoFar : State → ℕ → ℕ → List Need → PassValue → ℕ → PassValue → Type 0
SoFar start passes now needs old zero new = new ≡ old
SoFar start passes now needs old (suc again) new =
    AsksSoFar start passes now needs again old new
    × HasMovedOn (IsReadFor (replay start new.seen) now needs) new

-- The rows of a query: the series that its needs find in a state, as the state shows them.
use Rattle.std.specs.Prelude.{◌≡◌, ◌≢◌, ℕ, ℤ, ◌+◌, ◌<◌, ◌≤◌, List, [], ◌∷◌, All, Contains, length, map, Option, None, IfSome, IsSomeAnd}
use Rattle.std.specs.Option.{option_map_or}
use Rattle.outside_io.specs.Image.{Image}
use Rattle.metric_path.specs.Class.{class_of}
use Rattle.metric_path.specs.Path.{path_fault}
use Rattle.metric_index.specs.Found.{IsFitted}
use Rattle.ring_format.specs.Layout.{LayoutValue}
use Rattle.ring_archive.specs.Ring.{Rings}
use Rattle.series_fetch.specs.declared.range.Window.{Window}
use Rattle.series_fetch.specs.declared.range.Window.TheVariants.{Empty}
use Rattle.series_fetch.specs.Window.{window}
use Rattle.carbon_model.specs.declared.series.Series.{Series}
use Rattle.carbon_model.specs.Found.{Finds, IsKnown}
use Rattle.carbon_model.specs.Series.{series_at, series_in}
use Rattle.carbon_model.specs.State.{State, layout_of, points_in}
use Rattle.series_set.specs.Series.{SeriesValue}
use Rattle.series_funcs.specs.Combined.{most_series}
use Rattle.render_need.specs.declared.need.Need.{Need}
use Rattle.render_need.specs.Rows.{Rows, concat}

-- ---- what is found

-- the question of a need about a metric
abbrev pub window_of : State → ℕ → Need → List ℕ → Window
window_of s now need path = window (layout_of s path) now need.from need.until

-- a legal path that the glob of the need fits, and of which the need has buckets (every path that a run knows is legal: a law)
pub record IsAsked (s : State) (now : ℕ) (need : Need) (path : List ℕ) : Type 0 where
  pub legal : path_fault path ≡ None
  pub fits : IsFitted need.glob path
  pub some : window_of s now need path ≢ Empty

-- these are all such metrics, in byte order
abbrev pub FindsOf : State → ℕ → Need → List (List ℕ) → Type 0
FindsOf s now need paths = Finds s (IsAsked s now need) paths

-- the same of each need, in the order of the needs
abbrev pub FindsAll : State → ℕ → List Need → List (List (List ℕ)) → Type 0
FindsAll s now [] found = found ≡ []
FindsAll s now (need ∷ needs) [] = ⊥
FindsAll s now (need ∷ needs) (paths ∷ found) = FindsOf s now need paths × FindsAll s now needs found

-- some need finds the metric
pub record IsFoundBy (s : State) (now : ℕ) (needs : List Need) (path : List ℕ) : Type 0 where
  pub need : Need
  pub one : Contains needs need
  pub asked : IsAsked s now need path
  pub known : IsKnown s path

-- ---- how much is found

abbrev pub series_count : List (List (List ℕ)) → ℕ
series_count [] = 0
series_count (paths ∷ found) = length paths + series_count found

-- how many values a state shows of a metric, for a need
abbrev pub value_count : State → ℕ → Need → List ℕ → ℕ
value_count s now need path = option_map_or (λ shown. length shown.values) (series_at s path now need.from need.until) 0

abbrev pub value_count_of : State → ℕ → Need → List (List ℕ) → ℕ
value_count_of s now need [] = 0
value_count_of s now need (path ∷ paths) = value_count s now need path + value_count_of s now need paths

abbrev pub value_count_all : State → ℕ → List Need → List (List (List ℕ)) → ℕ
value_count_all s now [] found = 0
value_count_all s now (need ∷ needs) [] = 0
value_count_all s now (need ∷ needs) (paths ∷ found) = value_count_of s now need paths + value_count_all s now needs found

-- the most values of all series of one question
abbrev pub most_points : ℕ
most_points = 4000000

-- The needs find so many series, more than one question may have.
pub record HasTooManySeries (s : State) (now : ℕ) (needs : List Need) (count : ℕ) : Type 0 where
  pub found : List (List (List ℕ))
  pub finds : FindsAll s now needs found
  pub all : series_count found ≡ count
  pub many : most_series < count

-- They do not, but the series have so many values, more than one question may have.
pub record HasTooManyPoints (s : State) (now : ℕ) (needs : List Need) (count : ℕ) : Type 0 where
  pub found : List (List (List ℕ))
  pub finds : FindsAll s now needs found
  pub few : series_count found ≤ most_series
  pub all : value_count_all s now needs found ≡ count
  pub many : most_points < count

-- The needs find no more series, and these no more values, than one question may have.
pub record FindsFew (s : State) (now : ℕ) (needs : List Need) : Type 0 where
  pub found : List (List (List ℕ))
  pub finds : FindsAll s now needs found
  pub few : series_count found ≤ most_series
  pub short : value_count_all s now needs found ≤ most_points

-- The metric is one that is read for a question: some need finds it, and what is found is within the limits.
pub record IsReadFor (s : State) (now : ℕ) (needs : List Need) (path : List ℕ) : Type 0 where
  pub found : IsFoundBy s now needs path
  pub within : FindsFew s now needs

-- ---- the rows

-- the series has the start, the step and the values that are shown
pub record IsOf (shown : Series) (series : SeriesValue) : Type 0 where
  pub start : series.start ≡ shown.first
  pub step : series.step ≡ shown.step
  pub values : series.values ≡ shown.values

-- the pending points are shown over some archives
abbrev pub ShowsPending : LayoutValue → List (ℕ × ℤ) → Window → SeriesValue → Type 0
ShowsPending layout points window series = (rings : Rings) × IsSomeAnd (series_in layout rings points window) (λ shown. IsOf shown series)

-- A series of a need shows what the state has of its metric, whose path is its name: the pending points over some archives, over none where
-- nothing is kept of it, and over those that are kept where the disk of its class told at the opening what it held.
pub record IsShown (told : ℕ → Option Image) (s : State) (now : ℕ) (need : Need) (series : SeriesValue) : Type 0 where
  pub named : series.name ≡ series.path
  pub pending : ShowsPending (layout_of s series.path) (points_in s series.path) (window_of s now need series.path) series
  pub bare : s.kept series.path ≡ None
      → IsSomeAnd (series_at s series.path now need.from need.until) (λ shown. IsOf shown series)
  pub kept : IfSome (told (class_of series.path))
      (λ opening. IsSomeAnd (series_at s series.path now need.from need.until) (λ shown. IsOf shown series))

-- the row of a need: a series of each metric that it finds, in byte order of the paths
pub record IsRow (told : ℕ → Option Image) (s : State) (now : ℕ) (need : Need) (row : List SeriesValue) : Type 0 where
  pub found : FindsOf s now need (map (λ series. series.path) row)
  pub each : All (IsShown told s now need) row

-- a row for each need, in order
abbrev pub AreRowsOf : (ℕ → Option Image) → State → ℕ → List Need → Rows → Type 0
AreRowsOf told s now [] rows = rows ≡ []
AreRowsOf told s now (need ∷ needs) [] = ⊥
AreRowsOf told s now (need ∷ needs) (row ∷ rows) = IsRow told s now need row × AreRowsOf told s now needs rows

-- how many values some series have in all
abbrev pub points_of : List SeriesValue → ℕ
points_of [] = 0
points_of (series ∷ set) = length series.values + points_of set

-- The rows of a question that has not too many series and not too many values.
pub record HasRows (told : ℕ → Option Image) (s : State) (now : ℕ) (needs : List Need) (rows : Rows) : Type 0 where
  pub are : AreRowsOf told s now needs rows
  pub few : length (concat rows) ≤ most_series
  pub short : points_of (concat rows) ≤ most_points

-- What a look tells of the metrics of a class, and what is read of one of them.
use Rattle.std.specs.Prelude.{◌≡◌, ◌≢◌, ℕ, ◌-◌, ◌/◌, true, All, List, [], ◌∷◌, length, map, slice_get, Option}
use Rattle.std.specs.Cmp.Lexicographic.{slice_cmp}
use Rattle.std.specs.List.{sum_by}
use Rattle.std.specs.List.Sorted.{IsStrictlySortedBy}
use Rattle.std.specs.Option.{option_map_or}
use Rattle.std.specs.Ordering.{nat_cmp}
use Rattle.std.specs.declared.cmp.Ordering.TheVariants.{Less}
use Rattle.outside_io.specs.Image.{Image}
use Rattle.metric_path.specs.Class.{class_of}
use Rattle.fixed_num.specs.Moment.{is_moment}
use Rattle.ring_format.specs.Layout.{LayoutValue}
use Rattle.path_glob.specs.Faults.{Said}
use Rattle.point_cache.specs.Points.{IsRising}
use Rattle.series_fetch.specs.Window.{IsWindow, window}
use Rattle.series_fetch.specs.declared.range.Window.TheVariants.{Empty, Range}
use Rattle.series_fetch.specs.declared.range.Window.{Window}
use Rattle.metric_index.specs.Found.{IsFitted}
use Rattle.metric_index.specs.Index.{paths_of}
use Rattle.metric_table.specs.Table.{seen}
use Rattle.metric_table.specs.declared.found_metric.FoundMetric.{FoundMetric}
use Rattle.metric_table.specs.declared.known.Known.{Known}
use Rattle.point_cache.specs.Pending.{Metrics, points_of}
use Rattle.carbon_model.specs.State.{State, layout_of, points_in}
use Rattle.carbon_model.specs.Found.{Finds, IsKnown}
use Rattle.carbon_model.specs.RingFiles.{IsOfClass}
use Rattle.shard_core.specs.Shard.{Holds, Inside, KnowsAs}
use Rattle.shard_core.specs.declared.looked.LookCount.{LookCount}
use Rattle.shard_core.specs.declared.looked.Looked.{Looked}

-- the paths, in order
abbrev pub looked_paths : List Looked → List (List ℕ)
looked_paths looked = map (λ l. l.path) looked

-- what the state has of a metric, for a question from a moment until another
pub record TellsOf (s : State) (now from until : ℕ) (looked : Looked) : Type 0 where
  pub layout : looked.layout ≡ layout_of s looked.path
  pub window : looked.window ≡ window (layout_of s looked.path) now from until
  pub pending : looked.pending ≡ points_in s looked.path
  pub drains : looked.drains ≡ s.drains looked.path

-- the metrics of a class that fit and of which the question has buckets, in byte order, each as the
-- state has it
pub record Looks (class : ℕ) (s : State) (fits : List ℕ → Type 0) (now from until : ℕ) (looked : List Looked) : Type 0 where
  pub found : Finds s (λ path. IsOfClass class path × (fits path × (window (layout_of s path) now from until ≢ Empty))) (looked_paths looked)
  pub each : All (TellsOf s now from until) looked

-- the same of a shard, in whatever state it stands for
abbrev pub LooksAt : Inside → (List ℕ → Type 0) → ℕ → ℕ → ℕ → List Looked → Type 0
LooksAt shard fits now from until looked =
    (told : Option Image) (s : State) → Holds told shard s → Looks shard.class s fits now from until looked

-- ---- what is found

-- what a state has of a found metric of a class
pub record IsFoundAs (class : ℕ) (s : State) (metric : FoundMetric) : Type 0 where
  pub here : class_of metric.path.now ≡ class
  pub layout : metric.layout.now ≡ layout_of s metric.path.now
  pub drains : metric.drains ≡ s.drains metric.path.now

-- the metrics of a class that a state knows and that fit, in byte order, each as the state has it
pub record FindsFor (class : ℕ) (s : State) (fits : List ℕ → Type 0)
    (found : List FoundMetric) : Type 0 where
  pub all : Finds s (λ path. IsOfClass class path × fits path) (paths_of (map seen found))
  pub each : All (IsFoundAs class s) found

-- a metric of its class that a shard knows, in the layout that it has there
abbrev pub IsKnownTo : Inside → FoundMetric → Type 0
IsKnownTo shard metric =
    (class_of metric.path.now ≡ shard.class)
    × KnowsAs shard metric.path.now metric.layout.now

-- the metrics of a shard that fit: those of whatever state it stands for
pub record IsFoundIn (shard : Inside) (fits : List ℕ → Type 0)
    (found : List FoundMetric) : Type 0 where
  pub states : (told : Option Image) (s : State) → Holds told shard s
      → FindsFor shard.class s fits found
  pub known : All (IsKnownTo shard) found

-- what is looked at of metrics that were found: what a state has of them, for which the shard stands
-- and in which they are those that a glob fits
abbrev pub LooksAtFound : Inside → List FoundMetric → ℕ → ℕ → ℕ → List Looked → Type 0
LooksAtFound shard found now from until looked =
    (told : Option Image) (s : State) (glob : Said) → Holds told shard s
    → FindsFor shard.class s (IsFitted glob) found
    → Looks shard.class s (IsFitted glob) now from until looked

-- ---- inside a look

-- what is told of a metric of which this is known, for a question about this window
abbrev pub looked_as : Metrics → Window → List ℕ × Known → Looked
looked_as metrics window metric = record {
  path = metric.0;
  layout = metric.1.layout;
  window = window;
  pending = points_of metrics metric.0;
  drains = metric.1.drains;
}

-- the same of those of these metrics of which the question has buckets, in their order
abbrev pub looked_if : Metrics → Window → List ℕ × Known → List Looked → List Looked
looked_if metrics Empty metric looked = looked
looked_if metrics (Range i first end) metric looked = looked_as metrics (Range i first end) metric ∷ looked

abbrev pub looked_in : Metrics → ℕ → ℕ → ℕ → List (List ℕ × Known) → List Looked
looked_in metrics now from until [] = []
looked_in metrics now from until (metric ∷ found) =
    looked_if metrics (window metric.1.layout now from until) metric (looked_in metrics now from until found)

-- a window of the layout, and points in rising time
abbrev pub IsSoundLook : Looked → Type 0
IsSoundLook looked = IsWindow looked.layout looked.window × IsRising looked.pending

-- ---- what a read needs

-- what a read needs of a look, whatever the shard is
pub record IsReadableLook (looked : Looked) : Type 0 where
  pub window : IsWindow looked.layout looked.window
  pub rising : IsRising looked.pending
  pub moments : All (λ p. is_moment p.0 ≡ true) looked.pending

-- All that a read needs: a metric of the class in the layout that it has, a window of that layout,
-- and points in rising time.
pub record MayRead (shard : Inside) (looked : Looked) : Type 0 where
  pub here : class_of looked.path ≡ shard.class
  pub known : KnowsAs shard looked.path looked.layout
  pub window : IsWindow looked.layout looked.window
  pub rising : IsRising looked.pending
  pub moments : All (λ p. is_moment p.0 ≡ true) looked.pending

-- the paths of the metrics of a class that are pending or kept, in byte order
abbrev pub NamesOf : Inside → List (List ℕ) → Type 0
NamesOf shard names = (told : Option Image) (s : State) → Holds told shard s → Finds s (IsOfClass shard.class) names

-- paths of metrics of a class that are pending or kept, from one on, in byte order
pub record NamesFrom (shard : Inside) (least : List ℕ) (names : List (List ℕ)) : Type 0 where
  pub known : (told : Option Image) (s : State) → Holds told shard s → All (λ path. IsOfClass shard.class path × IsKnown s path) names
  pub rising : IsStrictlySortedBy (slice_cmp nat_cmp) names
  pub behind : All (λ path. slice_cmp nat_cmp path least ≢ Less) names

-- ---- how much a look finds

-- how many buckets a window has
abbrev pub bucket_count : LayoutValue → Window → ℕ
bucket_count layout Empty = 0
bucket_count layout (Range i first end) =
    option_map_or (λ archive. (end - first) / archive.step) (slice_get layout.archives i) 0

-- the same of the window of a look
abbrev pub buckets_of : Looked → ℕ
buckets_of looked = bucket_count looked.layout looked.window

-- so many metrics are looked at, and their windows have so many buckets in all
pub record CountsLooks (shard : Inside) (fits : List ℕ → Type 0) (now from until : ℕ)
    (count : LookCount) : Type 0 where
  pub looked : List Looked
  pub looks : LooksAt shard fits now from until looked
  pub series : count.series ≡ length looked
  pub values : count.values ≡ sum_by buckets_of looked

-- the same in a state
pub record CountsFor (class : ℕ) (s : State) (fits : List ℕ → Type 0) (now from until : ℕ)
    (count : LookCount) : Type 0 where
  pub looked : List Looked
  pub looks : Looks class s fits now from until looked
  pub series : count.series ≡ length looked
  pub values : count.values ≡ sum_by buckets_of looked

-- one metric where the question has buckets of it, and none where it has not
abbrev pub series_of : Window → ℕ
series_of Empty = 0
series_of (Range i first end) = 1

-- the same of a metric that was found, and its buckets
abbrev pub series_at : ℕ → ℕ → ℕ → FoundMetric → ℕ
series_at now from until metric = series_of (window metric.layout.now now from until)

abbrev pub buckets_at : ℕ → ℕ → ℕ → FoundMetric → ℕ
buckets_at now from until metric =
    bucket_count metric.layout.now (window metric.layout.now now from until)

-- the count of these metrics
pub record CountsFound (now from until : ℕ) (found : List FoundMetric) (count : LookCount) : Type 0 where
  pub series : count.series ≡ sum_by (series_at now from until) found
  pub values : count.values ≡ sum_by (buckets_at now from until) found

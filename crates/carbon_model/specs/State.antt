-- What carbon holds, apart from how it is held.
use Rattle.std.specs.Prelude.{◌≡◌, ℕ, ℤ, ◌==◌, List, Option, Some, None, if◌then◌else◌}
use Rattle.metric_path.specs.Class.{class_of}
use Rattle.point_cache.specs.Pending.{points_of}
use Rattle.drain_order.specs.Pick.{pick}
use Rattle.drain_order.specs.declared.strategy.Strategy.{Strategy}
use Rattle.ring_format.specs.Layout.{LayoutValue}
use Rattle.ring_archive.specs.Ring.{Rings}

-- the metrics with pending points, in the order in which each got its first: each a path, and its points in rising time
abbrev pub Metrics : Type 0
Metrics = List (List ℕ × List (ℕ × ℤ))

-- what is kept of a metric that was drained: the version of its file, its layout, and the values of
-- its archives
pub record Kept : Type 0 where
  pub version : ℕ
  pub layout : LayoutValue
  pub rings : Rings

-- the version and the layout of it
abbrev pub form_of : Kept → ℕ × LayoutValue
form_of kept = (kept.version, kept.layout)

pub record State : Type 0 where
  -- of each class, its metrics with pending points, and the paths that its drains take next where they go by a queue
  pub pending : ℕ → Metrics
  pub queue : ℕ → List (List ℕ)
  -- of each path, what is kept, and how often it was drained
  pub kept : List ℕ → Option Kept
  pub drains : List ℕ → ℕ
  -- what is fixed for a run: the layout that the rules give each path, how many points of a class may be pending, and the drain order
  pub rules : List ℕ → LayoutValue
  pub limit : ℕ
  pub strategy : Strategy

-- the state with these metrics in a class, and all else as it is
abbrev pub with_pending : State → ℕ → Metrics → State
with_pending s class metrics = record s { pending = λ k. if k == class then metrics else s.pending k }

-- the pending points of a path
abbrev pub points_in : State → List ℕ → List (ℕ × ℤ)
points_in s path = points_of (s.pending (class_of path)) path

-- the metric of a class that is drained next: in a sound state none exactly where nothing of it is pending (a law)
abbrev pub picked : State → ℕ → Option (List ℕ)
picked s class = pick s.strategy (s.queue class) (s.pending class)

-- ---- layouts and archives

-- archives that have no values
abbrev pub no_rings : Rings
no_rings = λ i bucket. None

-- the layout that is kept of a path, and else the one that it is given
abbrev pub layout_or : LayoutValue → Option Kept → LayoutValue
layout_or given None = given
layout_or given (Some kept) = kept.layout

-- the layout of a path: a metric that was drained keeps its own, and the rules give any other its layout
abbrev pub layout_of : State → List ℕ → LayoutValue
layout_of s path = layout_or (s.rules path) (s.kept path)

-- the archives that are kept of a path
abbrev pub rings_of : Option Kept → Rings
rings_of None = no_rings
rings_of (Some kept) = kept.rings

-- ---- parts

-- Two states agree in all that belongs to a class: what is pending of it, its queue, and what is kept of its paths.
pub record SamePart (class : ℕ) (s t : State) : Type 0 where
  pub pending : s.pending class ≡ t.pending class
  pub queue : s.queue class ≡ t.queue class
  pub kept : (path : List ℕ) → class_of path ≡ class → s.kept path ≡ t.kept path
  pub drains : (path : List ℕ) → class_of path ≡ class → s.drains path ≡ t.drains path
  pub rules : (path : List ℕ) → class_of path ≡ class → s.rules path ≡ t.rules path
  pub limit : s.limit ≡ t.limit
  pub strategy : s.strategy ≡ t.strategy

-- What the steps of a plan tell: which metric goes next, and how its drain begins.
use Rattle.std.specs.Prelude.{◌≡◌, ◌≢◌, ◌<◌, ℕ, [], length, slice_get, Option, None, Some}
use Rattle.outside_io.specs.Image.{Image}
use Rattle.point_cache.specs.Points.{IsRising}
use Rattle.point_cache.specs.Pending.{points_of}
use Rattle.drain_order.specs.Pick.{pick}
use Rattle.carbon_model.specs.RingFiles.{IsOfClass}
use Rattle.shard_core.specs.Halves.{AreHalves, DeskInside, FilesInside}
use Rattle.shard_core.specs.Plans.{Begins, IsDrainable, IsPicked, MayPlan, PlansFor, PlansTo}
use Rattle.shard_core.specs.Shard.{Inside, Stays}
use Rattle.shard_core.specs.declared.next_metric.NextMetric.{NextMetric}
use Rattle.shard_core.specs.declared.planned.Planned.{Planned}
use Rattle.shard_core.specs.declared.planning.NextDrain.{NextDrain}
use Rattle.shard_core.specs.declared.planned.Begun.{Begun}
use Rattle.shard_core.specs.declared.planned.Begun.TheVariants.{Took, Changed, NoMemory}

-- a metric is what a desk has at a place
pub record IsMetricAt (desk : DeskInside) (place : ℕ) (metric : NextMetric) : Type 0 where
  pub there : slice_get desk.cache.places place ≡ Some metric.path
  pub points : metric.points ≡ points_of desk.cache.metrics metric.path
  pub drainable : IsDrainable desk.table metric.path metric.known

-- its path is a legal one of the class, and it has points, in rising time
pub record IsSoundNext (class : ℕ) (metric : NextMetric) : Type 0 where
  pub one : IsOfClass class metric.path
  pub rising : IsRising metric.points
  pub some : 0 < length metric.points

-- A metric goes next, as the desk has it. Files that are a half with the desk and write no drain may
-- make its patch, also after the desk has changed.
pub record GoesNext (desk : DeskInside) (metric : NextMetric) : Type 0 where
  pub picked : pick desk.picker.strategy desk.picker.queue desk.cache.metrics ≡ Some metric.path
  pub points : metric.points ≡ points_of desk.cache.metrics metric.path
  pub drainable : IsDrainable desk.table metric.path metric.known
  pub some : desk.cache.metrics ≢ []
  pub has : 0 < length metric.points
  pub may : (files : FilesInside) → AreHalves desk files → files.shelf ≡ None
      → MayPlan metric.known files.known metric.path metric.points

-- what a desk tells of the metric that goes next
abbrev pub IsNext : DeskInside → Option NextMetric → Type 0
IsNext desk None = desk.cache.metrics ≡ []
IsNext desk (Some metric) = GoesNext desk metric

-- a metric is picked, and stands at this place
pub record GoesNextAt (desk : DeskInside) (metric : NextMetric) (place : ℕ) : Type 0 where
  pub picked : IsPicked desk.picker desk.cache place
  pub here : IsMetricAt desk place metric

-- The pending points, the queue, the shelf and what is known of the metrics are as before.
pub record IsAsBefore (old new : Inside) : Type 0 where
  pub cache : new.cache ≡ old.cache
  pub queue : new.picker.queue ≡ old.picker.queue
  pub shelf : new.shelf ≡ old.shelf
  pub steps : new.steps ≡ old.steps
  pub log : new.log ≡ old.log
  pub table : new.table ≡ old.table
  pub stays : Stays old new

-- each answer of the begin of a drain whose patch was made
abbrev pub BeginsTo : Begun → Inside → Inside → ℕ → Type 0
BeginsTo (Took path) old new now = Begins old new path now
BeginsTo Changed old new now = IsAsBefore old new
BeginsTo NoMemory old new now = IsAsBefore old new

-- a drain was made at a moment for a metric, over the files of this image
pub record IsMadeFor (metric : NextMetric) (image : Option Image) (now : ℕ) (next : NextDrain) : Type 0 where
  pub moment : next.now ≡ now
  pub plans : PlansFor metric.known image metric.path metric.points next.now next.patch

-- each answer of the begin of a drain for which a patch was to be made: that of a plan, or all is as before
abbrev pub PlansNow : Option Planned → Inside → Inside → ℕ → Type 0
PlansNow None old new now = IsAsBefore old new
PlansNow (Some plan) old new now = PlansTo plan old new now

-- What a plan makes of a shard.
use Rattle.std.specs.Prelude.{◌≡◌, ◌≢◌, ◌↔◌, ◌<◌, ◌-◌, ◌^◌, ◌&&◌, true, false, ℕ, ℤ, List, [], All, length, not, slice_get, Option, None, Some, IfSome, IsSome, IsSomeAnd, option_map}
use Rattle.std.specs.Map.{remove_entry}
use Rattle.std.specs.Str.{bytes_eq}
use Rattle.outside_io.specs.Image.{Image}
use Rattle.metric_path.specs.Class.{class_of}
use Rattle.metric_path.specs.FileName.{file_name_of}
use Rattle.ring_format.specs.Layout.{layout_fault}
use Rattle.ring_format.specs.Patch.{PatchValue}
use Rattle.fixed_num.specs.Moment.{is_moment}
use Rattle.ring_archive.specs.Ring.{IsRingFileIn, OnFile, ReadsAs, Rings, UnderPatch}
use Rattle.archive_update.specs.Batch.{batch, HaveNoHome}
use Rattle.metric_index.specs.Index.{entry_of}
use Rattle.metric_table.specs.Table.{kept_version}
use Rattle.metric_table.specs.declared.known.Known.{Known}
use Rattle.point_cache.specs.Points.{IsRising}
use Rattle.point_cache.specs.Pending.{Cache, points_of}
use Rattle.drain_order.specs.Pick.{pick, queue_after}
use Rattle.drain_order.specs.Picking.{Follows, Picking, settled_with}
use Rattle.write_shelf.specs.Runs.{runs_of}
use Rattle.write_shelf.specs.Shelf.{DrainValue}
use Rattle.redo_log.specs.Steps.{RedoValue}
use Rattle.carbon_model.specs.State.{State, picked}
use Rattle.carbon_model.specs.Replay.{drained}
use Rattle.shard_core.specs.Halves.{AreHalves, DeskInside, FilesInside, both}
use Rattle.shard_core.specs.Shard.{Holds, Inside, Stays}
use Rattle.shard_core.specs.Table.{Table, kept_form}
use Rattle.shard_core.specs.Work.{first_step}
use Rattle.shard_core.specs.declared.planned.Planned.{Planned}
use Rattle.shard_core.specs.declared.planned.Planned.TheVariants.{Took, Busy, Idle, DiskFault, NoMemory}

-- whatever state the shard stood for, its class picks this path, and it stands for the state after
-- its drain
abbrev pub Drains : Inside → Inside → List ℕ → ℕ → Type 0
Drains old new path now =
    (told : Option Image) (s : State) → Holds told old s
    → (picked s old.class ≡ Some path) × Holds told new (drained s path now)

-- no cell is to be written: something is kept of the metric in version 2, and each pending point is
-- older than all that its archives reach back
abbrev pub NeedsNoWrite : Inside → List ℕ → ℕ → Type 0
NeedsNoWrite shard path now =
    IsSomeAnd (kept_form shard.table path)
    (λ form. (form.0 ≡ 2) × HaveNoHome form.1.archives now (points_of shard.cache.metrics path))

-- a drain of a metric with all its runs left to write
pub record IsUnwritten (path : List ℕ) (drain : DrainValue) : Type 0 where
  pub own : drain.patch.path ≡ path
  pub all : drain.left ≡ runs_of drain.patch
  pub few : length drain.left < 5000000

-- A drain of the metric begins: it is drained for all that the shard says from now on, and its
-- patch is on the shelf, unless there is nothing to write. Where drains go through the log it stands
-- at its first step there.
pub record Begins (old new : Inside) (path : List ℕ) (now : ℕ) : Type 0 where
  pub empty : old.shelf ≡ None
  pub here : class_of path ≡ old.class
  pub drains : Drains old new path now
  pub shelf : IfSome new.shelf (IsUnwritten path)
  pub log : new.log ≡ option_map (λ (redo : Option RedoValue). first_step new.shelf) old.log
  pub few : new.steps < 5000000
  pub nothing : (new.shelf ≡ None) ↔ NeedsNoWrite old path now
  pub fewer : length new.cache.metrics < length old.cache.metrics

-- A drain was to begin and does not: the pending points, the queue, the shelf and what is known of
-- the metrics are as before.
pub record Refuses (old new : Inside) : Type 0 where
  pub empty : old.shelf ≡ None
  pub some : old.cache.metrics ≢ []
  pub cache : new.cache ≡ old.cache
  pub queue : new.picker.queue ≡ old.picker.queue
  pub shelf : new.shelf ≡ old.shelf
  pub steps : new.steps ≡ old.steps
  pub log : new.log ≡ old.log
  pub table : new.table ≡ old.table
  pub stays : Stays old new

-- each answer, exactly where it comes
abbrev pub PlansTo : Planned → Inside → Inside → ℕ → Type 0
PlansTo (Took path) old new now = Begins old new path now
PlansTo Busy old new now = IsSome old.shelf × (new ≡ old)
PlansTo Idle old new now = (old.shelf ≡ None) × ((old.cache.metrics ≡ []) × (new ≡ old))
PlansTo DiskFault old new now = Refuses old new
PlansTo NoMemory old new now = Refuses old new

-- ---- inside a plan

-- the metric at a place is picked
pub record IsPicked (picker : Picking) (cache : Cache) (place : ℕ) : Type 0 where
  pub within : place < length cache.places
  pub told : slice_get cache.places place ≡ pick picker.strategy picker.queue cache.metrics
  pub settled : picker.settled ≡ Some (queue_after picker.strategy picker.queue cache.metrics)
  pub rest : (path : List ℕ) → slice_get cache.places place ≡ Some path
      → Follows (settled_with picker (queue_after picker.strategy picker.queue cache.metrics)) (remove_entry (bytes_eq path) cache.metrics)

-- nothing of a desk changed but which pick waits to be settled
pub record OnlyPicks (old new : DeskInside) : Type 0 where
  pub others : new ≡ record old { picker = new.picker }
  pub queue : new.picker.queue ≡ old.picker.queue
  pub strategy : new.picker.strategy ≡ old.picker.strategy
  pub stays : (files : FilesInside) → Stays (both old files) (both new files)
  pub halves : (files : FilesInside) → AreHalves old files → AreHalves new files

-- this is known of a metric, which was not drained too often
pub record IsDrainable (table : Table) (path : List ℕ) (known : Known) : Type 0 where
  pub there : entry_of table path ≡ Some known
  pub few : known.drains < 2 ^ 64 - 1
  pub lawful : layout_fault known.layout.archives known.layout.factor ≡ None

-- All that the making of a patch needs of a metric of which this is known: points in rising time, of
-- legal moments, and its ring file where something is kept of it.
pub record MayPlan (known : Known) (image : Option Image) (path : List ℕ) (points : List (ℕ × ℤ)) : Type 0 where
  pub rising : IsRising points
  pub moments : All (λ p. is_moment p.0 ≡ true) points
  pub file : IfSome (kept_version known)
      (λ version. OnFile image (file_name_of path) (IsRingFileIn version known.layout))

-- The patch makes the batch of these points of a metric of which this is known, over whatever its
-- file reads as. It is fresh where nothing is kept of the metric in version 2; then it has what the
-- file had.
pub record PlansFor (known : Known) (image : Option Image) (path : List ℕ) (points : List (ℕ × ℤ)) (now : ℕ) (patch : PatchValue) : Type 0 where
  pub own : patch.path ≡ path
  pub layout : patch.layout ≡ known.layout
  pub fresh : patch.fresh ≡ not (known.is_kept && not known.is_old)
  pub batch : UnderPatch (not known.is_kept) image (file_name_of path) (λ file. (rings : Rings)
      → ReadsAs (record { path = path; layout = patch.layout; fresh = not known.is_kept; cells = [] })
      file rings
      → ReadsAs patch file (batch patch.layout now points rings))
  pub cells : patch.fresh ≡ false → (patch.cells ≡ []) ↔ HaveNoHome patch.layout.archives now points

-- the same of the pending points of a metric, which was not drained too often
pub record MakesBatch (shard : Inside) (path : List ℕ) (now : ℕ) (patch : PatchValue) : Type 0 where
  pub known : Known
  pub there : entry_of shard.table path ≡ Some known
  pub few : known.drains < 2 ^ 64 - 1
  pub lawful : layout_fault known.layout.archives known.layout.factor ≡ None
  pub plans : PlansFor known shard.known path (points_of shard.cache.metrics path) now patch

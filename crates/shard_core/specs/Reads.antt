-- What is read of a metric that was looked at.
use Rattle.std.specs.Prelude.{◌≡◌, ◌≢◌, ℕ, ℤ, List, length, Option, None, Some, IfSome, IsSomeAnd, Result, Ok, Err, option_and_then, if◌then◌else◌}
use Rattle.std.specs.Str.{bytes_eq}
use Rattle.outside_io.specs.Image.{Image}
use Rattle.ring_format.specs.Layout.{LayoutValue}
use Rattle.ring_format.specs.Patch.{PatchValue}
use Rattle.ring_archive.specs.Ring.{Rings}
use Rattle.write_shelf.specs.Shelf.{DrainValue}
use Rattle.series_fetch.specs.declared.range.Window.{Window}
use Rattle.series_fetch.specs.Window.{HasBuckets}
use Rattle.series_fetch.specs.Shown.{shown}
use Rattle.carbon_model.specs.State.{State, no_rings, rings_of}
use Rattle.metric_index.specs.Index.{entry_of}
use Rattle.metric_table.specs.Table.{kept_version}
use Rattle.shard_core.specs.Halves.{AreHalves, DeskInside, FilesInside, both}
use Rattle.shard_core.specs.Looks.{MayRead}
use Rattle.shard_core.specs.Shard.{Holds, Inside, patch_on}
use Rattle.shard_core.specs.Table.{Table, drains_in, kept_form}
use Rattle.shard_core.specs.declared.looked.Looked.{Looked}
use Rattle.shard_core.specs.declared.looked.LookFault.{LookFault}
use Rattle.shard_core.specs.declared.looked.LookFault.TheVariants.{Moved, DiskFault, NoMemory}

-- the patch on the shelf, where it is that of a path
abbrev pub patch_for : Option DrainValue → List ℕ → Option PatchValue
patch_for shelf path =
    option_and_then (λ patch. if bytes_eq patch.path path then Some patch else None) (patch_on shelf)

-- as many values as the window has buckets, in which the pending points show as they do over some
-- archives
pub record ShowsPending (layout : LayoutValue) (pending : List (ℕ × ℤ)) (window : Window)
    (values : List (Option ℤ)) : Type 0 where
  pub count : HasBuckets layout window (length values)
  pub some : (rings : Rings) × (values ≡ shown layout rings pending window)

-- The values of a metric: its pending points as they were looked at over what is kept of it now,
-- and where nothing is kept of it these points alone. Of a metric that is kept on a disk that tells
-- nothing they are over some archives.
pub record Shows (shard : Inside) (looked : Looked) (values : List (Option ℤ)) : Type 0 where
  pub pending : ShowsPending looked.layout looked.pending looked.window values
  pub bare : kept_form shard.table looked.path ≡ None
      → values ≡ shown looked.layout no_rings looked.pending looked.window
  pub kept : (told : Option Image) (s : State) → Holds told shard s → IfSome told (λ opening.
      values ≡ shown looked.layout (rings_of (s.kept looked.path)) looked.pending looked.window)

-- each answer, exactly where it comes: a metric that was drained since it was looked at has moved
abbrev pub ReadsTo : Inside → Looked → Result (List (Option ℤ)) LookFault → Type 0
ReadsTo shard looked (Ok values) =
    (drains_in shard.table looked.path ≡ looked.drains) × Shows shard looked values
ReadsTo shard looked (Err (Moved drains)) =
    (drains_in shard.table looked.path ≡ drains) × (drains ≢ looked.drains)
ReadsTo shard looked (Err DiskFault) = drains_in shard.table looked.path ≡ looked.drains
ReadsTo shard looked (Err NoMemory) = drains_in shard.table looked.path ≡ looked.drains

-- ---- the files alone

-- what is kept of a metric is of this version, or nothing is
abbrev pub IsKept : Table → List ℕ → Option ℕ → Type 0
IsKept table path version = IsSomeAnd (entry_of table path) (λ known. kept_version known ≡ version)

-- files may be read for what was looked at of a metric, of which their desk says whether something is
-- kept
pub record MayFetch (desk : DeskInside) (files : FilesInside) (looked : Looked)
    (version : Option ℕ) : Type 0 where
  pub halves : AreHalves desk files
  pub may : MayRead (both desk files) looked
  pub kept : IsKept desk.table looked.path version

-- the same, whichever their desk is
pub record MayBeFetched (files : FilesInside) (looked : Looked) (version : Option ℕ) : Type 0 where
  pub desk : DeskInside
  pub may : MayFetch desk files looked version

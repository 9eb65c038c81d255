-- What a shard holds, and the state that it stands for.
use Rattle.std.specs.Prelude.{◌≡◌, ℕ, true, false, None, Some, All, List, Option, option_map, IfSome, IsSomeAnd}
use Rattle.outside_io.specs.Image.{Image, WhereKnown}
use Rattle.metric_path.specs.Path.{path_fault}
use Rattle.metric_path.specs.Class.{class_of}
use Rattle.metric_path.specs.FileName.{file_name_of}
use Rattle.fixed_num.specs.Moment.{is_moment}
use Rattle.ring_format.specs.Layout.{LayoutValue, layout_fault}
use Rattle.ring_format.specs.Patch.{PatchValue}
use Rattle.ring_archive.specs.Ring.{IsRingFile, IsRingFileIn}
use Rattle.ring_writer.specs.PartWritten.{Awaits}
use Rattle.metric_index.specs.Index.{entry_of}
use Rattle.write_shelf.specs.Shelf.{DrainValue}
use Rattle.redo_log.specs.Steps.{RedoValue}
use Rattle.carbon_model.specs.State.{Kept, Metrics, State, form_of}
use Rattle.carbon_model.specs.RingFiles.{IsOfClass, StandsUnder, is_patched}
use Rattle.drain_order.specs.Picking.{Picking}
use Rattle.point_cache.specs.Pending.{Cache}
use Rattle.schema_rules.specs.LayoutBy.{layout_by}
use Rattle.schema_rules.specs.RulesOf.{RulesValue}
use Rattle.shard_core.specs.Table.{Table, drains_in, kept_form}

-- pending metrics have legal paths of the class, and their points legal moments
abbrev pub AreOfClass : ℕ → Metrics → Type 0
AreOfClass class metrics =
    All (λ metric. (path_fault metric.0 ≡ None) × ((class_of metric.0 ≡ class) × All (λ p. is_moment p.0 ≡ true) metric.1)) metrics

-- ---- the files

-- the patch of the drain that is being written
abbrev pub patch_on : Option DrainValue → Option PatchValue
patch_on shelf = option_map (λ drain. drain.patch) shelf

-- a ring file of a version and a lawful layout
abbrev pub IsLawfulRing : ℕ → LayoutValue → List ℕ → Type 0
IsLawfulRing version layout file =
    (layout_fault layout.archives layout.factor ≡ None) × IsRingFileIn version layout file

-- each kept metric of the class, but that of the patch, has a ring file of its version and layout,
-- where the disk tells its image
abbrev pub HasFiles : ℕ → Table → Option PatchValue → Option Image → Type 0
HasFiles class table patch known =
    IfSome known (λ image. (path : List ℕ) → path_fault path ≡ None → class_of path ≡ class → is_patched patch path ≡ false
    → IfSome (kept_form table path)
    (λ form. IsSomeAnd (image (file_name_of path)) (IsLawfulRing form.0 form.1)))

-- the patch is of a kept metric of the class, of version 2, and in its layout
pub record IsOfKept (class : ℕ) (table : Table) (patch : PatchValue) : Type 0 where
  pub legal : path_fault patch.path ≡ None
  pub here : class_of patch.path ≡ class
  pub kept : kept_form table patch.path ≡ Some (2, patch.layout)
  pub lawful : layout_fault patch.layout.archives patch.layout.factor ≡ None

-- the file of the patch is as far written as the runs that are left need, and where it was not
-- created for the patch it is a ring file
pub record IsUnderWay (drain : DrainValue) (held : Option (List ℕ)) : Type 0 where
  pub far : Awaits drain.patch drain.left held
  pub ring : drain.patch.fresh ≡ false → IsSomeAnd held (IsRingFile drain.patch.layout)

-- the same of what is on the shelf, where the disk tells its image
abbrev pub HoldsShelf : ℕ → Table → Option DrainValue → Option Image → Type 0
HoldsShelf class table shelf known =
    IfSome shelf (λ drain. IsOfKept class table drain.patch × IfSome known (λ image. IsUnderWay drain (image (file_name_of drain.patch.path))))

-- ---- the state

-- The table, the patch and the disk of a class stand for what is kept, where the disk told this
-- image at the opening. A disk that does not tell its image says nothing of values; the versions and
-- the layouts are still those of what is kept.
pub record HoldsKept (told : Option Image) (class : ℕ) (table : Table) (patch : Option PatchValue) (known : Option Image) (kept : List ℕ → Option Kept) : Type 0 where
  pub layouts : (path : List ℕ) → IsOfClass class path
      → kept_form table path ≡ option_map form_of (kept path)
  pub files : WhereKnown told known (λ opening now. StandsUnder opening now patch kept class)

-- What a shard holds, as contracts see it: its class, the rules, the pending points, which of them
-- go next, what it knows of its metrics, the drain that is being written, in how many steps at most
-- and how far it came in the log, where it goes through one, and what its disk tells.
pub record Inside : Type 0 where
  pub class : ℕ
  pub rules : RulesValue
  pub cache : Cache
  pub picker : Picking
  pub table : Table
  pub shelf : Option DrainValue
  pub steps : ℕ
  pub log : Option (Option RedoValue)
  pub known : Option Image

-- A shard stands for its class's part of a state.
pub record Holds (told : Option Image) (shard : Inside) (s : State) : Type 0 where
  pub pending : shard.cache.metrics ≡ s.pending shard.class
  pub queue : shard.picker.queue ≡ s.queue shard.class
  pub kept : HoldsKept told shard.class shard.table (patch_on shard.shelf) shard.known s.kept
  pub drains : (path : List ℕ) → IsOfClass shard.class path → drains_in shard.table path ≡ s.drains path
  pub rules : (path : List ℕ) → class_of path ≡ shard.class → s.rules path ≡ layout_by shard.rules path
  pub limit : shard.cache.limit ≡ s.limit
  pub strategy : shard.picker.strategy ≡ s.strategy

-- whatever state a shard stood for, it stands for it still
abbrev pub Stays : Inside → Inside → Type 0
Stays old new = (told : Option Image) (s : State) → Holds told old s → Holds told new s

-- a metric is known, and has this layout
abbrev pub KnowsAs : Inside → List ℕ → LayoutValue → Type 0
KnowsAs shard path layout = IsSomeAnd (entry_of shard.table path) (λ known. known.layout ≡ layout)

-- known metrics stay so, and keep their layouts
abbrev pub KeepsLayouts : Inside → Inside → Type 0
KeepsLayouts old new = (path : List ℕ) (layout : LayoutValue) → KnowsAs old path layout → KnowsAs new path layout

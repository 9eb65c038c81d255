-- What the two locks of a class keep: that of its desk, with the points that are pending, and that of its files, with what is kept.
use Rattle.std.specs.Prelude.{◌≡◌, ◌↔◌, ◌<◌, ◌≤◌, ◌+◌, ◌*◌, ℕ, Bool, true, false, List, [], ◌++◌, filter, Option, None, IfSome, count_by, option_map}
use Rattle.atomic_table.specs.Seated.{TableId}
use Rattle.outside_io.specs.Image.{Image, WhereKnown}
use Rattle.metric_path.specs.Class.{class_of}
use Rattle.carbon_history.specs.declared.entry.Entry.{Entry}
use Rattle.carbon_history.specs.declared.entry.Entry.TheVariants.{Put, Drain, Ask, Fault}
use Rattle.carbon_history.specs.Entries.{drains}
use Rattle.ring_format.specs.Layout.{LayoutValue}
use Rattle.carbon_model.specs.State.{Kept, State, form_of}
use Rattle.carbon_model.specs.Replay.{replay}
use Rattle.carbon_model.specs.RingFiles.{IsOfClass, StandsUnder}
use Rattle.schema_rules.specs.LayoutBy.{layout_by}
use Rattle.shard_core.specs.Halves.{AreHalves, DeskInside, FilesInside}
use Rattle.shard_core.specs.Shard.{patch_on}
use Rattle.shard_core.specs.Table.{Table, drains_in, kept_form}
use Rattle.shared_history.specs.Parts.{TailValue}
use Rattle.shared_history.specs.Rule.{OneOwed}
use Rattle.shared_store.specs.Desks.{LastDrains}
use Rattle.shared_store.specs.Tallies.{capped, is_fault}
use Rattle.class_halves.specs.Parts.{HalfValue}

-- ---- what a desk does alone

-- what is entered only where both locks are held
abbrev pub is_late : Entry → Bool
is_late (Put pass path time value end) = false
is_late (Drain pass path now) = true
is_late (Ask pass number try now) = false
is_late (Fault pass class) = true

-- these entries, and behind them none that needs both locks: no drain, and no fault of the disk
pub record OnlyPuts (then now : List Entry) : Type 0 where
  pub more : List Entry
  pub list : now ≡ then ++ more
  pub puts : filter is_late more ≡ []

-- ---- the desk

-- the versions and the layouts of what is kept
abbrev pub forms_of : (List ℕ → Option Kept) → List ℕ → Option (ℕ × LayoutValue)
forms_of kept path = option_map form_of (kept path)

-- a table has these versions and layouts of the metrics of a class
pub record HasLayouts (class : ℕ) (table : Table) (layouts : List ℕ → Option (ℕ × LayoutValue)) : Type 0 where
  pub each : (path : List ℕ) → IsOfClass class path → kept_form table path ≡ layouts path

-- a desk stands for its class's part of a state: all of it but the values that are kept
pub record HoldsDesk (desk : DeskInside) (s : State) : Type 0 where
  pub pending : desk.cache.metrics ≡ s.pending desk.class
  pub queue : desk.picker.queue ≡ s.queue desk.class
  pub layouts : (path : List ℕ) → IsOfClass desk.class path → kept_form desk.table path ≡ forms_of s.kept path
  pub drains : (path : List ℕ) → IsOfClass desk.class path → drains_in desk.table path ≡ s.drains path
  pub rules : (path : List ℕ) → class_of path ≡ desk.class → s.rules path ≡ layout_by desk.rules path
  pub limit : desk.cache.limit ≡ s.limit
  pub strategy : desk.picker.strategy ≡ s.strategy

-- What the lock of a desk keeps: the desk stands for all entries of the class, and since its two locks were last held together it did no more than
-- a desk does alone.
pub record KeepsDesk (table : TableId) (half_of : ℕ → TableId) (start : State) (desk : DeskInside) (half : HalfValue) (tail : TailValue) : Type 0 where
  pub same : tail.table ≡ table
  pub class : tail.class ≡ desk.class
  pub within : desk.class < 16
  pub tied : half.table ≡ half_of desk.class
  pub holds : HoldsDesk desk (replay start tail.list)
  pub since : OnlyPuts half.stand.list tail.list
  pub settled : tail.settled ≡ half.stand.settled
  pub runs : tail.runs ≡ half.stand.runs

-- ---- the files

-- the files stand for what is kept
abbrev pub HoldsFiles : Option Image → FilesInside → (List ℕ → Option Kept) → Type 0
HoldsFiles told files kept = WhereKnown told files.known (λ opening now. StandsUnder opening now (patch_on files.shelf) kept files.class)

-- What the lock of the files keeps: they stand for what is kept after the entries that the class had when its locks were last held together; no drain is
-- being written exactly where all of them are settled, and all but one are where one is, which is the last; the steps that were taken and those that may
-- come are at most 5,000,000 for each drain; no more of the entries are faults than the disk counted since the start; and with the desk as it
-- was then they are the halves of one shard.
pub record KeepsFiles (half_of : ℕ → TableId) (told : ℕ → Option Image) (start : State) (earlier : ℕ → ℕ) (files : FilesInside) (failed : ℕ) (half : HalfValue) : Type 0 where
  pub within : files.class < 16
  pub tied : half.table ≡ half_of files.class
  pub holds : HoldsFiles (told files.class) files (replay start half.stand.list).kept
  pub settled : (files.shelf ≡ None) ↔ (drains half.stand.list ≡ half.stand.settled)
  pub owed : OneOwed half.stand.settled half.stand.list
  pub last : IfSome files.shelf (λ drain. LastDrains drain.patch.path half.stand.list)
  pub runs : half.stand.runs + files.steps ≤ 5000000 * drains half.stand.list
  pub faults : capped (earlier files.class + count_by is_fault half.stand.list) ≤ failed
  pub before : DeskInside
  pub layouts : HasLayouts files.class before.table (forms_of (replay start half.stand.list).kept)
  pub halves : AreHalves before files

-- what contracts see of it: the class, its entries then, and whether a drain is being written
pub record FilesValue : Type 0 where
  pub class : ℕ
  pub list : List Entry
  pub shelved : Bool

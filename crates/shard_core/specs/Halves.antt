-- The two halves of a shard: its desk, which has what is pending and what is known, and its files.
use Rattle.std.specs.Prelude.{◌≡◌, ℕ, Option}
use Rattle.outside_io.specs.Image.{Image}
use Rattle.outside_io.specs.declared.disk.Disk.{Ghosts}
use Rattle.drain_order.specs.Picking.{Picking}
use Rattle.point_cache.specs.Pending.{Cache}
use Rattle.schema_rules.specs.RulesOf.{RulesValue}
use Rattle.write_shelf.specs.Shelf.{DrainValue}
use Rattle.redo_log.specs.Steps.{RedoValue}
use Rattle.shard_core.specs.Shard.{HasFiles, HoldsShelf, Inside, KeepsLayouts, patch_on}
use Rattle.shard_core.specs.Table.{Table}
use Rattle.shard_core.specs.Work.{HoldsLog}
use Rattle.shard_core.specs.declared.desk.Desk.{Desk}
use Rattle.shard_core.specs.declared.files.Files.{Files}

-- What a desk holds, as contracts see it: its class, the rules, the pending points, which of them go
-- next, and what it knows of its metrics.
pub record DeskInside : Type 0 where
  pub class : ℕ
  pub rules : RulesValue
  pub cache : Cache
  pub picker : Picking
  pub table : Table

-- What the files hold: their class, the drain that is being written, in how many steps at most and
-- how far it came in the log, and what their disk tells.
pub record FilesInside : Type 0 where
  pub class : ℕ
  pub shelf : Option DrainValue
  pub steps : ℕ
  pub log : Option (Option RedoValue)
  pub known : Option Image

-- what a shard of both halves holds
abbrev pub both : DeskInside → FilesInside → Inside
both desk files = record {
  class = desk.class;
  rules = desk.rules;
  cache = desk.cache;
  picker = desk.picker;
  table = desk.table;
  shelf = files.shelf;
  steps = files.steps;
  log = files.log;
  known = files.known;
}

-- A desk and files are the halves of one shard: they are of one class, each metric that the desk
-- knows as kept has its ring file, the drain that is being written is of a kept metric and as far as
-- the runs need that are left, and the log has what its next step needs.
pub record AreHalves (desk : DeskInside) (files : FilesInside) : Type 0 where
  pub one : files.class ≡ desk.class
  pub rings : HasFiles desk.class desk.table (patch_on files.shelf) files.known
  pub writing : HoldsShelf desk.class desk.table files.shelf files.known
  pub logged : HoldsLog files.log files.known

-- files that are a half with some desk
pub record HaveDesk (files : FilesInside) : Type 0 where
  pub desk : DeskInside
  pub halves : AreHalves desk files

-- The class and the rules of a desk never change.
pub record SameDesk (old new : DeskInside) : Type 0 where
  pub class : new.class ≡ old.class
  pub rules : new.rules ≡ old.rules

-- Both are halves still, and known metrics keep their layouts.
pub record KeepsHalves (old : DeskInside) (files : FilesInside) (new : DeskInside)
    (files' : FilesInside) : Type 0 where
  pub halves : AreHalves new files'
  pub same : SameDesk old new
  pub layouts : KeepsLayouts (both old files) (both new files')

-- ---- of the types

abbrev pub desk_of : Desk → DeskInside
desk_of desk = record {
  class = desk.class;
  rules = desk.rules;
  cache = desk.cache;
  picker = desk.picker;
  table = desk.table;
}

abbrev pub files_of : {D : Type 0} {d : Ghosts D} → Files D d → FilesInside
files_of {D} {d} files = record {
  class = files.class;
  shelf = files.work.shelf;
  steps = files.work.steps;
  log = files.work.log;
  known = d.image files.disk;
}

abbrev pub held_by : {D : Type 0} {d : Ghosts D} → Desk → Files D d → Inside
held_by desk files = both (desk_of desk) (files_of files)

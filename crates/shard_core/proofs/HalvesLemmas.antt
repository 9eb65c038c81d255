-- The halves of a shard through puts, plans and writes.
use Rattle.std.proofs.Common.{◌≡◌, ◌∙◌, ℕ, ℤ, All, true, List, Option, Some, None, IfSome, refl, sym, subst}
use Rattle.metric_path.specs.FileName.{file_name_of}
use Rattle.fixed_num.specs.Moment.{is_moment}
use Rattle.metric_index.specs.Index.{entry_of}
use Rattle.metric_table.specs.Table.{kept_version}
use Rattle.metric_table.specs.declared.known.Known.{Known}
use Rattle.point_cache.specs.Points.{IsRising}
use Rattle.point_cache.specs.Pending.{points_of}
use Rattle.drain_order.specs.Picking.{Picking}
use Rattle.ring_archive.specs.Ring.{IsRingFileIn, OnFile}
use Rattle.ring_archive.proofs.UnderLemmas.{on_file_map}
use Rattle.write_shelf.specs.Shelf.{DrainValue}
use Rattle.carbon_model.specs.RingFiles.{IsOfClass}
use Rattle.shard_core.specs.Halves.{AreHalves, DeskInside, FilesInside, both}
use Rattle.shard_core.specs.Plans.{Begins, MayPlan, OnlyPicks}
use Rattle.shard_core.specs.Puts.{OnlyTakes}
use Rattle.shard_core.specs.Shard.{AreOfClass, HasFiles, HoldsShelf, IsLawfulRing, patch_on}
use Rattle.shard_core.specs.Work.{HoldsLog}
use Rattle.shard_core.proofs.BeginLemmas.{begins_from}
use Rattle.shard_core.proofs.KeptLemmas.{file_at}
use Rattle.shard_core.proofs.PendingLemmas.{points_have_moments}
use Rattle.shard_core.proofs.PutLemmas.{files_same, shelf_same}
use Rattle.shard_core.proofs.WriteLemmas.{Written}

-- ---- puts

-- a desk after a put is a half with the same files
pub halves_put : (old new : DeskInside) (files : FilesInside) → OnlyTakes old new → AreHalves old files → AreHalves new files
halves_put old new files takes halves = record {
  one = halves.one ∙ sym takes.class;
  rings = subst (λ (class : ℕ). HasFiles class new.table (patch_on files.shelf) files.known) (sym takes.class)
      (files_same old.class old.table new.table (patch_on files.shelf) files.known takes.says halves.rings);
  writing = subst (λ (class : ℕ). HoldsShelf class new.table files.shelf files.known) (sym takes.class)
      (shelf_same old.class old.table new.table files.shelf files.known takes.says halves.writing);
  logged = halves.logged;
}

-- ---- picks

-- the desk after a pick
abbrev pub desk_picked : DeskInside → Picking → DeskInside
desk_picked desk picker = record desk { picker = picker }

-- what began after the pick began after what was before it
pub begins_picked : (old picked new : DeskInside) (files files' : FilesInside) (path : List ℕ) (now : ℕ) → OnlyPicks old picked → Begins (both picked files) (both new files') path now → Begins (both old files) (both new files') path now
begins_picked old picked new files files' path now only begun =
    begins_from (both old files) (both new files') picked.picker path now only.queue only.strategy
    (subst (λ (d : DeskInside). Begins (both d files) (both new files') path now) only.others begun)

-- ---- plans

-- a patch may be made of the points of a pending metric
pub may_plan : (desk : DeskInside) (files : FilesInside) (path : List ℕ) (known : Known) (points : List (ℕ × ℤ)) → AreHalves desk files → files.shelf ≡ None → IsOfClass desk.class path
    → AreOfClass desk.class desk.cache.metrics → entry_of desk.table path ≡ Some known → IsRising points → points ≡ points_of desk.cache.metrics path → MayPlan known files.known path points
may_plan desk files path known points halves empty one own there rising is =
    let rings : HasFiles desk.class desk.table None files.known = subst (λ (shelf : Option DrainValue). HasFiles desk.class desk.table (patch_on shelf) files.known) empty halves.rings in record {
      rising = rising;
      moments = subst (λ (ps : List (ℕ × ℤ)). All (λ p. is_moment p.0 ≡ true) ps) (sym is) (points_have_moments desk.class desk.cache.metrics path own);
      file = by rings (kept_version known) refl;
    }
  where
    by : HasFiles desk.class desk.table None files.known → (kept : Option ℕ) → kept_version known ≡ kept → IfSome kept (λ version. OnFile files.known (file_name_of path) (IsRingFileIn version known.layout))
    by rings None e = tt
    by rings (Some version) e =
        on_file_map files.known (file_name_of path) (IsLawfulRing version known.layout) (IsRingFileIn version known.layout)
        (file_at desk.class desk.table None files.known path known version one refl there rings e) (λ file is. is.1)

-- ---- writes

-- after a call for a run the files are a half with the same desk
pub halves_written : (desk : DeskInside) (old new : FilesInside) → new.class ≡ old.class → Written desk.class desk.table old.shelf new.shelf old.known new.known → HoldsLog new.log new.known → AreHalves desk old → AreHalves desk new
halves_written desk old new class written log halves = record {
  one = class ∙ halves.one;
  rings = written.files halves.rings;
  writing = written.shelf;
  logged = log;
}

-- The archives so far are planned.
use Rattle.std.proofs.Common.{◌≡◌, ◌≤◌}
use Rattle.std.specs.Prelude.{[]}
use Rattle.ring_archive.specs.Ring.{UnderPatch}
use Rattle.archive_update.specs.Laid.{IsAlike}
use Rattle.archive_update.specs.Rolled.{HasNoOwn, PlansFirst}
use Rattle.archive_update.proofs.planning.plan_all.Given as goal

abbrev pub invariant-loop-archive : goal.invariant-loop-archive
invariant-loop-archive g l = record {
  plans : UnderPatch l.fn.patch.fresh (g.D.Disk.image l.fn.disk) l.view.name.now (PlansFirst l.view.layout l.now l.points l.fn.patch l.patch l.archive);
  filled : l.patch.cells ≡ [] → HasNoOwn l.view.layout l.now l.points l.archive;
  untouched : HasNoOwn l.view.layout l.now l.points l.archive → l.patch ≡ l.fn.patch;
  alike : IsAlike l.fn.patch l.patch;
  kept : g.D.Disk.image l.disk ≡ g.D.Disk.image l.fn.disk;
  changes : g.D.Disk.changes l.disk ≡ g.D.Disk.changes l.fn.disk;
  later : g.D.Disk.faults l.fn.disk ≤ g.D.Disk.faults l.disk;
}

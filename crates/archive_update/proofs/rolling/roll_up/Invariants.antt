-- The archives up to `archive` are rolled up, and the base of that one is known.
use Rattle.std.proofs.Common.{◌≡◌, ◌≤◌}
use Rattle.ring_archive.specs.Ring.{UnderPatch}
use Rattle.ring_archive.specs.View.{IsBased}
use Rattle.archive_update.specs.Laid.{IsAlike}
use Rattle.archive_update.specs.Rolled.{RollsTo}
use Rattle.archive_update.proofs.rolling.roll_up.Given as goal

abbrev pub invariant-loop-archive : goal.invariant-loop-archive
invariant-loop-archive g l = record {
  rolls : UnderPatch l.fn.patch.fresh (g.D.Disk.image l.fn.disk) l.view.name.now (RollsTo l.view.layout l.own l.fn.patch l.patch l.fn.from.archive l.archive);
  based : IsBased l.view l.patch (g.D.Disk.image l.disk) l.archive l.base;
  alike : IsAlike l.fn.patch l.patch;
  kept : g.D.Disk.image l.disk ≡ g.D.Disk.image l.fn.disk;
  changes : g.D.Disk.changes l.disk ≡ g.D.Disk.changes l.fn.disk;
  later : g.D.Disk.faults l.fn.disk ≤ g.D.Disk.faults l.disk;
}

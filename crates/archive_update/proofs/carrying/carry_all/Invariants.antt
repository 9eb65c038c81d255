-- The archives so far are carried.
use Rattle.std.proofs.Common.{◌≡◌, ◌≤◌}
use Rattle.ring_archive.specs.Ring.{OnFile}
use Rattle.archive_update.specs.Carried.{CarriesTo}
use Rattle.archive_update.specs.Laid.{IsAlike}
use Rattle.archive_update.proofs.carrying.carry_all.Given as goal

abbrev pub invariant-loop-archive : goal.invariant-loop-archive
invariant-loop-archive g l = record {
  carries : OnFile (g.D.Disk.image l.fn.disk) l.view.name.now (λ file. CarriesTo l.patch file l.archive 0);
  alike : IsAlike l.fn.patch l.patch;
  kept : g.D.Disk.image l.disk ≡ g.D.Disk.image l.fn.disk;
  changes : g.D.Disk.changes l.disk ≡ g.D.Disk.changes l.fn.disk;
  later : g.D.Disk.faults l.fn.disk ≤ g.D.Disk.faults l.disk;
}

-- The slots so far are carried.
use Rattle.std.proofs.Common.{◌≡◌, ◌≤◌, ◌-◌, true}
use Rattle.ring_archive.specs.Ring.{OnFile}
use Rattle.archive_update.specs.Carried.{CarriesTo, has_base}
use Rattle.archive_update.specs.Laid.{IsAlike}
use Rattle.archive_update.proofs.carrying.carry_archive.Given as goal

abbrev pub invariant-loop-slot : goal.invariant-loop-slot
invariant-loop-slot g l = record {
  within : l.slot ≤ l.points;
  carries : OnFile (g.D.Disk.image l.fn.disk) l.view.name.now
      (λ file. has_base l.view.layout.archives file l.archive ≡ true → CarriesTo l.fn.patch file l.archive 0 → CarriesTo l.patch file l.archive l.slot);
  alike : IsAlike l.fn.patch l.patch;
  kept : g.D.Disk.image l.disk ≡ g.D.Disk.image l.fn.disk;
  changes : g.D.Disk.changes l.disk ≡ g.D.Disk.changes l.fn.disk;
  later : g.D.Disk.faults l.fn.disk ≤ g.D.Disk.faults l.disk;
}

abbrev pub decreases-loop-slot : goal.decreases-loop-slot
decreases-loop-slot g l = l.points - l.slot

-- The archives so far are read.
use Rattle.std.proofs.Common.{◌≡◌, ◌≤◌, length}
use Rattle.ring_archive.specs.Ring.{bare}
use Rattle.ring_look.proofs.ArchiveLemmas.{FirstArchives}
use Rattle.ring_look.proofs.archives.read_archives.Given as goal

abbrev pub invariant-loop-place : goal.invariant-loop-place
invariant-loop-place g l = record {
  archives : FirstArchives l.view.version l.view.layout (bare l.fn.path l.view.layout) (g.D.Disk.image l.fn.disk) l.view.name.now l.place l.archives.items;
  count : length l.archives.items ≡ l.place;
  kept : g.D.Disk.image l.disk ≡ g.D.Disk.image l.fn.disk;
  changes : g.D.Disk.changes l.disk ≡ g.D.Disk.changes l.fn.disk;
  later : g.D.Disk.faults l.fn.disk ≤ g.D.Disk.faults l.disk;
}

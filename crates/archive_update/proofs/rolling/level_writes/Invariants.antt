-- What the buckets so far get.
use Rattle.std.proofs.Common.{◌≡◌, ◌≤◌, ◌+◌, All}
use Rattle.std.specs.Prelude.{take}
use Rattle.ring_archive.specs.Ring.{ReadsAs, Rings, UnderPatch}
use Rattle.archive_update.specs.Batch.{level_writes, step_of}
use Rattle.archive_update.specs.Buckets.{IsShown}
use Rattle.archive_update.specs.Rolled.{IsRead}
use Rattle.archive_update.proofs.rolling.level_writes.Given as goal

abbrev pub invariant-loop-k : goal.invariant-loop-k
invariant-loop-k g l = record {
  writes : UnderPatch l.patch.fresh (g.D.Disk.image l.fn.disk) l.view.name.now (λ file. (rings : Rings) → ReadsAs l.patch file rings → l.writes.items ≡ level_writes l.view.layout rings l.finer.archive (take l.k l.buckets));
  shown : All (λ write. IsShown (step_of l.view.layout.archives (l.finer.archive + 1)) write.0) l.writes.items;
  held : IsRead l.view l.patch (g.D.Disk.image l.fn.disk) l.finer.archive l.window.first l.window.count l.window.values.items;
  kept : g.D.Disk.image l.disk ≡ g.D.Disk.image l.fn.disk;
  changes : g.D.Disk.changes l.disk ≡ g.D.Disk.changes l.fn.disk;
  later : g.D.Disk.faults l.fn.disk ≤ g.D.Disk.faults l.disk;
}

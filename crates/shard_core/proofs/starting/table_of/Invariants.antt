use Rattle.std.proofs.Common.{◌≡◌, ◌≤◌, IfSome, map, string_bytes}
use Rattle.shard_core.specs.Opened.{IsOpened}
use Rattle.shard_core.specs.Starting.{Noted}
use Rattle.shard_core.proofs.starting.table_of.Given as goal

abbrev pub invariant-loop-name : goal.invariant-loop-name
invariant-loop-name g l = record {
  opened : IsOpened l.class l.table;
  noted : IfSome (g.D.Disk.image l.fn.disk) (λ image. Noted l.class image (map string_bytes l.names) l.name-index l.table);
  kept : g.D.Disk.image l.disk ≡ g.D.Disk.image l.fn.disk;
  changes : g.D.Disk.changes l.disk ≡ g.D.Disk.changes l.fn.disk;
  later : g.D.Disk.faults l.fn.disk ≤ g.D.Disk.faults l.disk;
}

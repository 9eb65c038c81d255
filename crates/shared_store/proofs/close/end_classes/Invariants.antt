use Rattle.std.proofs.Common.{◌≡◌, ◌≤◌, ◌+◌, vec_len, vec_capacity}
use Rattle.shared_store.specs.Closes.{EndsBelow}
use Rattle.shared_store.proofs.close.end_classes.Given as goal

abbrev pub invariant-loop-class : goal.invariant-loop-class
invariant-loop-class g l = record {
  left : vec_len l.desks + l.class ≡ 16;
  files : vec_len l.files + l.class ≡ 16;
  disk_room : 16 ≤ vec_capacity l.ends.disks;
  tail_room : 16 ≤ vec_capacity l.ends.tails;
  ends : EndsBelow g.D.Disk g.N.Named.table g.N.Named.told g.N.Named.start g.N.Named.faults l.class l.ends.disks.items l.ends.tails.items l.fn.passes l.passes;
}

use Rattle.std.proofs.Common.{◌≡◌, ◌+◌, ◌-◌, vec_len}
use Rattle.shared_store.specs.Starts.{AreFreshFalling}
use Rattle.shared_store.proofs.start.open_classes.Given as goal

abbrev pub invariant-loop-class : goal.invariant-loop-class
invariant-loop-class g l = record {
  count : vec_len l.locks.desks ≡ l._class;
  tails : vec_len l.tails + l._class ≡ 16;
  pairs : vec_len l.pairs + l._class ≡ 16;
  shards : vec_len l.shards + l._class ≡ 16;
  fresh : AreFreshFalling {d = g.D.Disk} g.N.Named.table g.N.Named.halves g.N.Named.told g.N.Named.start g.N.Named.faults (16 - l._class) l.tails.items l.pairs.items l.shards.items;
}

use Rattle.std.proofs.Common.{◌≡◌, ◌+◌, ◌≤◌, length}
use Rattle.std.specs.Prelude.{drop, vec_capacity, vec_len}
use Rattle.shard_set.specs.Opening.{AreStarted, settings_of}
use Rattle.shard_set.proofs.opening.start_each.Given as goal

abbrev pub invariant-loop-class : goal.invariant-loop-class
invariant-loop-class g l = record {
  started : AreStarted (settings_of l.setup) l.setup.redo l.fn.disks.items l.shards.items;
  rest : l.disks.items ≡ drop (length l.shards.items) l.fn.disks.items;
  count : vec_len l.shards ≡ l.class;
  left : vec_len l.disks + l.class ≡ 16;
  room : 16 ≤ vec_capacity l.shards;
  disk_room : 16 ≤ vec_capacity l.disks;
}

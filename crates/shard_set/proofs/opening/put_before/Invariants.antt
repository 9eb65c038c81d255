use Rattle.std.proofs.Common.{◌≡◌, ◌+◌, ◌++◌, ◌≤◌, map}
use Rattle.std.specs.Prelude.{vec_capacity, vec_len}
use Rattle.shard_set.proofs.opening.put_before.Given as goal

abbrev pub invariant-loop-shard : goal.invariant-loop-shard
invariant-loop-shard g l = record {
  given : map (λ shard. shard.files.disk) l.shards.items ++ l.disks.items ≡ map (λ shard. shard.files.disk) l.fn.shards.items ++ l.fn.disks.items;
  room : vec_len l.shards + vec_len l.disks ≤ vec_capacity l.disks;
}

abbrev pub decreases-loop-shard : goal.decreases-loop-shard
decreases-loop-shard g l = vec_len l.shards

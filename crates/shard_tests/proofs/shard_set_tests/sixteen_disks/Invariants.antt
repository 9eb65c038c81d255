use Rattle.std.proofs.Common.{◌≡◌, vec_len}
use Rattle.shard_tests.proofs.shard_set_tests.sixteen_disks.Given as goal

abbrev pub invariant-loop-class : goal.invariant-loop-class
invariant-loop-class l = vec_len l.disks ≡ l.class

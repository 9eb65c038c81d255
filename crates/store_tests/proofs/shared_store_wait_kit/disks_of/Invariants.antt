use Rattle.std.proofs.Common.{◌≡◌, vec_len}
use Rattle.store_tests.proofs.shared_store_wait_kit.disks_of.Given as goal

abbrev pub invariant-loop-class : goal.invariant-loop-class
invariant-loop-class g l = vec_len l.disks ≡ l.class

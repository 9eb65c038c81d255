use Rattle.std.proofs.Common.{◌≡◌, vec_len}
use Rattle.store_tests.proofs.shared_store_tests.old_disks.Given as goal

abbrev pub invariant-loop-class : goal.invariant-loop-class
invariant-loop-class l = vec_len l.disks ≡ l.class

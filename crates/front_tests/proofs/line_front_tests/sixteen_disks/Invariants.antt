use Rattle.std.proofs.Common.{◌≡◌, vec_len}
use Rattle.front_tests.proofs.line_front_tests.sixteen_disks.Given as goal

abbrev pub invariant-loop-k : goal.invariant-loop-k
invariant-loop-k l = vec_len l.disks ≡ l._k

use Rattle.std.proofs.Common.{◌≡◌, vec_len}
use Rattle.front_tests.proofs.carbon_run_serve_tests.writing_disks.Given as goal

abbrev pub invariant-loop-class : goal.invariant-loop-class
invariant-loop-class g l = vec_len l.disks ≡ l.class

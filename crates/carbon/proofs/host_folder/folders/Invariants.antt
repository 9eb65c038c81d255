use Rattle.std.proofs.Common.{◌≡◌, vec_len}
use Rattle.carbon.proofs.host_folder.folders.Given as goal

abbrev pub invariant-loop-class : goal.invariant-loop-class
invariant-loop-class l = vec_len l.disks ≡ l.class-counter

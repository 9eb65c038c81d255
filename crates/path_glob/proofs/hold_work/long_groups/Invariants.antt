use Rattle.std.proofs.Common.{length}
use Rattle.path_glob.proofs.hold_work.long_groups.Given as goal

abbrev pub decreases-loop-parts : goal.decreases-loop-parts
decreases-loop-parts l = length l.rest

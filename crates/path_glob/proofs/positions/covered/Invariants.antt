use Rattle.std.proofs.Common.{get_or}
use Rattle.path_glob.specs.Parts.{covers_byte}
use Rattle.path_glob.specs.Positions.{held}
use Rattle.path_glob.proofs.BitLemmas.{AreDone}
use Rattle.path_glob.proofs.positions.covered.Given as goal

abbrev pub invariant-loop-i : goal.invariant-loop-i
invariant-loop-i l = AreDone (λ j. covers_byte l.bytes (get_or l.node j 0)) (held l.found) l.i

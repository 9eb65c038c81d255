use Rattle.std.proofs.Common.{◌≡◌, ◌==◌, ◌<◌, ℕ, get_or, length}
use Rattle.path_glob.specs.Places.{no_positions}
use Rattle.path_glob.specs.Positions.{held}
use Rattle.path_glob.proofs.BitLemmas.{AreDone}
use Rattle.path_glob.proofs.places.Places.of.Given as goal

abbrev pub invariant-loop-i : goal.invariant-loop-i
invariant-loop-i l = record {
  size : length l.of ≡ 256;
  done : (b : ℕ) → b < 256 → AreDone (λ j. get_or l.node j 0 == b) (held (get_or l.of b no_positions)) l.i;
}

use Rattle.std.proofs.Common.{◌≡◌, ◌<◌, ◌≤◌, ℕ, List, false, length}
use Rattle.path_glob.specs.Known.{AreKnown, states_at}
use Rattle.path_glob.specs.Positions.{bit_of, held}
use Rattle.path_glob.specs.Tables.{AreTables}
use Rattle.path_glob.specs.declared.states.State.{State}
use Rattle.path_glob.proofs.RunLemmas.{Goes}
use Rattle.path_glob.proofs.known_sets.KnownSets.walk.Given as goal

abbrev pub invariant-loop-i : goal.invariant-loop-i
invariant-loop-i l = record {
  known : AreKnown l.tables l.self;
  within : l.at < length l.self;
  unseen : (j : ℕ) → l.i ≤ j → held l.reached j ≡ false;
  goes : (states : List State) → AreTables states l.tables → Goes states l.node (held l.start) (held l.reached) (bit_of (states_at l.self l.at)) l.i l.i;
}

use Rattle.std.proofs.Common.{◌≡◌, ◌≤◌, ℕ, List, false, length}
use Rattle.path_glob.specs.Positions.{bit_of, held}
use Rattle.path_glob.specs.Tables.{AreTables}
use Rattle.path_glob.specs.declared.states.State.{State}
use Rattle.path_glob.proofs.RunLemmas.{Goes}
use Rattle.path_glob.proofs.tables.Tables.after.Given as goal

abbrev pub invariant-loop-i : goal.invariant-loop-i
invariant-loop-i l = record {
  room : length l.active ≡ length l.fn.active;
  unseen : (j : ℕ) → l.i ≤ j → held l.reached j ≡ false;
  goes : (states : List State) → AreTables states l.self → Goes states l.node (held l.start) (held l.reached) (bit_of l.active) l.i l.i;
}

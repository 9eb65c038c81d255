use Rattle.std.proofs.Common.{◌++◌, length, List}
use Rattle.path_glob.specs.Reading.{values_of}
use Rattle.path_glob.specs.States.{AreRows}
use Rattle.path_glob.specs.declared.states.State.{State}
use Rattle.path_glob.proofs.states.states_of_values.Given as goal

abbrev pub invariant-loop-cut : goal.invariant-loop-cut
invariant-loop-cut l =
    (tail : List State) → AreRows (values_of l.rest) tail → AreRows (values_of l.values) (l.states.items ++ tail)

abbrev pub decreases-loop-cut : goal.decreases-loop-cut
decreases-loop-cut l = length l.rest

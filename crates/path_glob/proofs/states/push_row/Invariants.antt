use Rattle.std.proofs.Common.{◌++◌, length, List}
use Rattle.path_glob.specs.Reading.{row_of}
use Rattle.path_glob.specs.States.{AddsRow, AreStates}
use Rattle.path_glob.specs.declared.states.State.{State}
use Rattle.path_glob.proofs.states.push_row.Given as goal

abbrev pub invariant-loop-piece : goal.invariant-loop-piece
invariant-loop-piece l =
    (tail : List State) → AreStates l.is_first l.has_star (row_of l.rest) tail
    → AddsRow (row_of l.row) l.fn.states.items (l.states.items ++ tail)

abbrev pub decreases-loop-piece : goal.decreases-loop-piece
decreases-loop-piece l = length l.rest

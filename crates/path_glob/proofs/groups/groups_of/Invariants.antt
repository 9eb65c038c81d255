use Rattle.std.proofs.Common.{List, ◌++◌, length}
use Rattle.path_glob.specs.Glob.{Simple}
use Rattle.path_glob.specs.Groups.{AreGroups, all_rows}
use Rattle.path_glob.specs.Reading.{pieces_of}
use Rattle.path_glob.proofs.groups.groups_of.Given as goal

abbrev pub invariant-loop-parts : goal.invariant-loop-parts
invariant-loop-parts l =
    (tail : List (List (List Simple))) → AreGroups tail (pieces_of l.rest) → AreGroups (all_rows l.groups.items ++ tail) (pieces_of l.pieces)

abbrev pub decreases-loop-parts : goal.decreases-loop-parts
decreases-loop-parts l = length l.rest

use Rattle.std.proofs.Common.{◌≡◌, length}
use Rattle.std.specs.List.{list_any}
use Rattle.path_glob.specs.Glob.{is_within}
use Rattle.path_glob.specs.Reading.{ranges_of}
use Rattle.path_glob.proofs.positions.is_in_ranges.Given as goal

abbrev pub invariant-loop-found : goal.invariant-loop-found
invariant-loop-found l =
    list_any (is_within l.b) (ranges_of l.rest) ≡ list_any (is_within l.b) (ranges_of l.members)

abbrev pub decreases-loop-found : goal.decreases-loop-found
decreases-loop-found l = length l.rest

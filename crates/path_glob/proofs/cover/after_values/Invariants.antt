use Rattle.std.proofs.Common.{ℕ, Bool, length}
use Rattle.path_glob.specs.Glob.{SomeCovers}
use Rattle.path_glob.specs.Positions.{Adds, Leads, held}
use Rattle.path_glob.specs.Reading.{values_of}
use Rattle.path_glob.proofs.cover.after_values.Given as goal

abbrev pub invariant-loop-cut : goal.invariant-loop-cut
invariant-loop-cut l =
    (new : ℕ → Bool) → Adds (SomeCovers (values_of l.rest)) l.node (held l.start) (held l.reached) new
    → Leads (SomeCovers (values_of l.values)) l.node (held l.start) new

abbrev pub decreases-loop-cut : goal.decreases-loop-cut
decreases-loop-cut l = length l.rest

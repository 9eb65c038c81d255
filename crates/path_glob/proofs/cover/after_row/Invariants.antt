use Rattle.std.proofs.Common.{ℕ, Bool, length}
use Rattle.path_glob.specs.Glob.{RowCovers}
use Rattle.path_glob.specs.Positions.{Leads, held}
use Rattle.path_glob.specs.Reading.{row_of}
use Rattle.path_glob.proofs.cover.after_row.Given as goal

abbrev pub invariant-loop-step : goal.invariant-loop-step
invariant-loop-step l =
    (new : ℕ → Bool) → Leads (RowCovers (row_of l.rest)) l.node (held l.reached) new
    → Leads (RowCovers (row_of l.row)) l.node (held l.fn.start) new

abbrev pub decreases-loop-step : goal.decreases-loop-step
decreases-loop-step l = length l.rest

use Rattle.std.proofs.Common.{ℕ, Bool, length}
use Rattle.path_glob.specs.Glob.{NodeCovers}
use Rattle.path_glob.specs.Positions.{Leads, held}
use Rattle.path_glob.specs.Reading.{pieces_of}
use Rattle.path_glob.proofs.cover.after_node.Given as goal

abbrev pub invariant-loop-parts : goal.invariant-loop-parts
invariant-loop-parts l =
    (new : ℕ → Bool) → Leads (NodeCovers (pieces_of l.rest)) l.node (held l.reached) new
    → Leads (NodeCovers (pieces_of l.pieces)) l.node (held l.fn.start) new

abbrev pub decreases-loop-parts : goal.decreases-loop-parts
decreases-loop-parts l = length l.rest

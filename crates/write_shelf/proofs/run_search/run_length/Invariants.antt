-- The slots so far are laid.
use Rattle.std.proofs.Common.{◌+◌, ◌<◌, ℕ, IsSome}
use Rattle.ring_format.specs.Patch.{cell_at}
use Rattle.write_shelf.proofs.run_search.run_length.Given as goal

abbrev pub invariant-loop-count : goal.invariant-loop-count
invariant-loop-count l = (k : ℕ) → k < l.count → IsSome (cell_at l.patch.cells (l.archive, l.slot + k))

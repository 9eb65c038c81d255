-- The cells so far.
use Rattle.std.proofs.Common.{◌≡◌, map}
use Rattle.std.specs.List.{range_with_len}
use Rattle.ring_archive.specs.Held.{held_cell}
use Rattle.ring_archive.proofs.raw.cells_held.Given as goal

abbrev pub invariant-loop-k : goal.invariant-loop-k
invariant-loop-k l = l.cells.items ≡ map (λ k. held_cell l.version l.bytes k) (range_with_len 0 l.k)

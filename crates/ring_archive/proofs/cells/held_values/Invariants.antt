-- The values of the buckets so far.
use Rattle.std.proofs.Common.{◌≡◌, ◌+◌, ◌*◌, map}
use Rattle.std.specs.List.{range_with_len}
use Rattle.ring_archive.specs.Held.{held_value}
use Rattle.ring_archive.proofs.cells.held_values.Given as goal

abbrev pub invariant-loop-k : goal.invariant-loop-k
invariant-loop-k l =
    (l.values.items ≡ map (λ k. held_value l.version l.bytes l.first l.step k) (range_with_len 0 l.k)) × (l.bucket ≡ l.first + l.k * l.step)

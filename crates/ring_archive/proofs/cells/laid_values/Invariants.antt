-- The values of the buckets so far.
use Rattle.std.proofs.Common.{◌≡◌, ◌%◌, map}
use Rattle.std.specs.List.{range_with_len}
use Rattle.ring_archive.specs.Held.{picked_value}
use Rattle.ring_archive.proofs.cells.laid_values.Given as goal

abbrev pub invariant-loop-k : goal.invariant-loop-k
invariant-loop-k l =
    (l.values.items ≡ map (λ k. picked_value l.patch.cells l.round l.bytes l.first l.step k) (range_with_len 0 l.k)) × (l.place ≡ l.k % l.round.points)

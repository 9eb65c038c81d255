use Rattle.std.proofs.Common.{◌≡◌, ◌*◌, ◌≤◌, take}
use Rattle.std.specs.List.{sum_by}
use Rattle.ring_format.proofs.archive.point_count.Given as goal

abbrev pub invariant-loop-archive : goal.invariant-loop-archive
invariant-loop-archive l = (l.count ≡ sum_by (λ archive. archive.points) (take l.archive-index l.archives)) × (l.count ≤ 4294967295 * l.archive-index)

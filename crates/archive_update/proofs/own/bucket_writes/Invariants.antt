-- The writes of the points so far.
use Rattle.std.proofs.Common.{◌≡◌}
use Rattle.std.specs.Prelude.{All, take}
use Rattle.archive_update.specs.Batch.{latest_of_each, points_home}
use Rattle.archive_update.specs.Buckets.{IsOwn}
use Rattle.archive_update.proofs.own.bucket_writes.Given as goal

abbrev pub invariant-loop-point : goal.invariant-loop-point
invariant-loop-point l = record {
  writes : l.writes.items ≡ latest_of_each l.step (points_home l.layout.archives l.now l.archive (take l.point-index l.points));
  buckets : All (λ write. IsOwn l.step write.0) l.writes.items;
}

-- The buckets of the writes so far, each once.
use Rattle.std.proofs.Common.{◌≡◌, All, eqb, map, take}
use Rattle.std.specs.List.{dedup}
use Rattle.archive_update.specs.Batch.{bucket_of}
use Rattle.archive_update.specs.Buckets.{IsShown}
use Rattle.archive_update.proofs.rolling.coarse_buckets.Given as goal

abbrev pub invariant-loop-write : goal.invariant-loop-write
invariant-loop-write l = record {
  value : l.buckets.items ≡ dedup eqb (map (λ write. bucket_of l.step write.0) (take l.write-index l.own));
  shown : All (IsShown l.step) l.buckets.items;
}

use Rattle.std.proofs.Common.{nat_lt, rules}
use Rattle.std.proofs.lemmas.List.Sorted.{IsPartitionPoint-from_clause}
use Rattle.point_cache.proofs.PointsLemmas.{parted}
use Rattle.series_fetch.proofs.CutLemmas.{cut_at}
use Rattle.series_fetch.proofs.points.count_before.Goals as goal

pub returns : goal.returns
returns c =
    cut_at _ _ _ c.partition_point.ensures.bound
    (IsPartitionPoint-from_clause (λ p. nat_lt p.0 c.args.time) _ _ c.partition_point.ensures.partitioned (parted _ c.args.time c.requires) (λ a r q k. search rules))

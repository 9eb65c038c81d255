use Rattle.std.proofs.Common.{nat_lt, rules}
use Rattle.std.proofs.lemmas.List.Sorted.{IsPartitionPoint-from_clause}
use Rattle.point_cache.proofs.PointsLemmas.{parted, puts_at}
use Rattle.point_cache.proofs.points.place_of.Goals as goal

pub returns : goal.returns
returns c =
    let point = IsPartitionPoint-from_clause (λ p. nat_lt p.0 c.args.time) _ _ c.partition_point.ensures.partitioned (parted _ c.args.time c.requires) (λ a r q k. search rules) in
    puts_at _ _ _ c.requires c.partition_point.ensures.bound point

use Rattle.std.proofs.Common.{refl}
use Rattle.point_cache.specs.Kept.{metrics_of}
use Rattle.point_cache.proofs.KeptLemmas.{none_kept}
use Rattle.point_cache.proofs.metric_map.MetricMap.new.Goals as goal

pub invariant_of-result : goal.invariant_of-result
invariant_of-result c = rw c.new.ensures.empty (none_kept 0)

pub returns : goal.returns
unfolding metrics_of
returns c = rw c.new.ensures.empty refl

use Rattle.std.proofs.Common.{◌∙◌, ap, length, sym}
use Rattle.point_cache.specs.Pending.{Placed}
use Rattle.point_cache.proofs.KeptLemmas.{metrics_count, paths_once, paths_placed}
use Rattle.point_cache.proofs.metric_map.MetricMap.len.Goals as goal

pub returns-clause-metrics : goal.returns-clause-metrics
returns-clause-metrics c =
    c.len.ensures.len ∙ sym (metrics_count c.self.inside.entries.entries) ∙ ap (λ (p : Placed). length p.metrics) c.self.view_is

pub returns-clause-placed : goal.returns-clause-placed
returns-clause-placed c = rw (sym c.self.view_is) (paths_placed c.self.inside.entries.entries)

pub returns-clause-once : goal.returns-clause-once
returns-clause-once c = rw (sym c.self.view_is) (paths_once c.self.inside.entries.entries c.self.invariant.once)

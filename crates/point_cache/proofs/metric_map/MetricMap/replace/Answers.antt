use Rattle.std.proofs.Common.{◌∙◌, refl, sym}
use Rattle.point_cache.proofs.PutLemmas.{no_time}
use Rattle.point_cache.proofs.metric_map.MetricMap.replace.Goals as goal

pub returns-in-None-clause-put : goal.returns-in-None-clause-put
returns-in-None-clause-put c =
    rw (sym c.self.view_is) (no_time c.self.inside.next c.self.inside.entries.entries c.args.path.now c.args.time c.self.invariant (sym c.get_index_of.ensures.index ∙ c.in-None.is), refl)

use Rattle.std.proofs.Common.{◌∙◌, ap, is_some, sym}
use Rattle.point_cache.proofs.KeptLemmas.{places_pending}
use Rattle.point_cache.proofs.metric_map.MetricMap.place_of.Goals as goal

pub returns-clause-pending : goal.returns-clause-pending
returns-clause-pending c = rw (sym c.self.view_is) (ap is_some c.get_index_of.ensures.index ∙ places_pending c.self.inside.entries.entries c.args.path.now)

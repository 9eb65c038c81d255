use Rattle.std.proofs.Common.{◌∙◌, ap, sym}
use Rattle.std.specs.Option.{option_map}
use Rattle.std.specs.Map.Iter.{deref_pair}
use Rattle.point_cache.proofs.KeptLemmas.{points_placed}
use Rattle.point_cache.proofs.metric_map.MetricMap.points.Goals as goal

pub returns : goal.returns
returns c =
    let here = sym c.get_index.ensures.entry ∙ ap (option_map deref_pair) c.in-Some.is in
    rw (sym c.self.view_is) (λ path at. points_placed c.self.inside.next c.self.inside.entries.entries c.args.place path c.in-Some.field-0-0.now c.in-Some.numbered.now c.self.invariant here at)

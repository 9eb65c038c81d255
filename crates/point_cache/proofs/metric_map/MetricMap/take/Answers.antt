use Rattle.std.proofs.Common.{◌∙◌, sym}
use Rattle.point_cache.proofs.KeptLemmas.{left}
use Rattle.point_cache.proofs.metric_map.MetricMap.take.Goals as goal

pub invariant_of-self : goal.invariant_of-self
invariant_of-self c =
    let l = left c.self.inside.next c.self.inside.entries.entries c.args.place c.in-Some.path c.in-Some.numbered c.self.invariant (sym c.swap_remove_index.ensures.entry ∙ c.in-Some.is) in
    rw c.in-Some.ensures.entries l.kept

pub returns : goal.returns
returns c =
    let l = left c.self.inside.next c.self.inside.entries.entries c.args.place c.in-Some.path c.in-Some.numbered c.self.invariant (sym c.swap_remove_index.ensures.entry ∙ c.in-Some.is) in
    rw (sym c.self.view_is, c.in-Some.ensures.entries) (record { path = l.here; points = l.points; metrics = l.metrics; places = l.places })

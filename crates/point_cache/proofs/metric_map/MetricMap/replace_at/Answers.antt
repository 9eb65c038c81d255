use Rattle.std.proofs.Common.{◌∙◌, ap, refl, sym}
use Rattle.std.specs.Option.{option_copied_mut}
use Rattle.point_cache.proofs.KeptLemmas.{renewed_at}
use Rattle.point_cache.proofs.PutLemmas.{replaces_next}
use Rattle.point_cache.proofs.metric_map.MetricMap.replace_at.Goals as goal

pub invariant_of-self : goal.invariant_of-self
invariant_of-self c =
    let here = sym c.get_index_mut.ensures.value ∙ ap option_copied_mut c.in-Some.is in
    (renewed_at c.self.inside.next c.self.inside.entries.entries c.args.path.now c.args.place c.in-Some.numbered.now (record { number = c.in-Some.numbered.now.number; points = c.replace.new.self })
    c.self.invariant (rw (sym c.self.view_is) at c.requires) here refl).kept

pub returns : goal.returns
returns c =
    let put = c.replace.ensures.put in
    let here = sym c.get_index_mut.ensures.value ∙ ap option_copied_mut c.in-Some.is in
    let r = renewed_at c.self.inside.next c.self.inside.entries.entries c.args.path.now c.args.place c.in-Some.numbered.now (record { number = c.in-Some.numbered.now.number; points = c.replace.new.self })
    c.self.invariant (rw (sym c.self.view_is) at c.requires) here refl in
    let p = replaces_next c.self.inside.next c.self.inside.entries.entries c.args.path.now c.args.place c.in-Some.numbered.now (record { number = c.in-Some.numbered.now.number; points = c.replace.new.self })
    c.args.time c.args.value c.replace.result r put c.replace.ensures.count in
    rw (sym c.self.view_is) (record { put = p.put; counts = p.counts })

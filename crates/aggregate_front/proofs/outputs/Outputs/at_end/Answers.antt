use Rattle.std.proofs.Common.{◌∙◌, ◌++◌, ap, option_map, sym}
use Rattle.std.specs.Map.Iter.{deref_pair}
use Rattle.aggregate_front.specs.Emitting.{open_points}
use Rattle.aggregate_front.proofs.HeldLemmas.{at_end_more, emittable_all, value_of_entry}
use Rattle.aggregate_front.proofs.outputs.Outputs.at_end.Goals as goal

pub push_open-requires : goal.push_open-requires
push_open-requires c =
    let here = sym c.get_index.ensures.entry ∙ ap (option_map deref_pair) c.in-Some.is in
    let entries = c.self.inside.entries.entries in
    emittable_all c.self.inside.points c.self.inside.limits entries c.loop-place.place c.in-Some.gathered.now c.self.invariant
    (value_of_entry entries c.loop-place.place c.in-Some.key.now c.in-Some.gathered.now here)

pub loop-place-preserved : goal.loop-place-preserved
loop-place-preserved c =
    let here = sym c.get_index.ensures.entry ∙ ap (option_map deref_pair) c.in-Some.is in
    let entries = c.self.inside.entries.entries in
    let so_far = rw (sym c.self.view_is) at c.loop-place.invariant in
    rw (sym c.self.view_is)
    (c.in_ok-push_open.ensures
    ∙ ap (λ l. l ++ open_points (c.in-Some.key.now, c.in-Some.gathered.now)) so_far
    ∙ sym (at_end_more entries c.loop-place.place c.in-Some.key.now c.in-Some.gathered.now here))

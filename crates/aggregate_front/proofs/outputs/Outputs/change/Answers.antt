use Rattle.std.proofs.Common.{◌∙◌, ap, sym, arith}
use Rattle.std.specs.Option.{option_copied_mut}
use Rattle.aggregate_front.specs.Emitting.{Held}
use Rattle.aggregate_front.proofs.HeldLemmas.{changed, keeps_own, on_err_from, set_same, sound_at}
use Rattle.aggregate_front.proofs.outputs.Outputs.change.Goals as goal

pub take-requires : goal.take-requires
take-requires c = record { sound = sound_at c.self.inside.entries.entries c.args.place c.in-Some.gathered.now c.self.invariant.sound (sym c.get_index_mut.ensures.value ∙ ap option_copied_mut c.in-Some.is) }

pub invariant_of-self : goal.invariant_of-self
invariant_of-self c =
    let there = sym c.get_index_mut.ensures.value ∙ ap option_copied_mut c.in-Some.is in
    let same = set_same c.self.inside.entries.entries c.args.place c.in-Some.gathered.now there in
    rw (c.in_err-change.ensures.err, same) c.self.invariant

pub returns-in_err-change-clause-err : goal.returns-in_err-change-clause-err
returns-in_err-change-clause-err c =
    let there = sym c.get_index_mut.ensures.value ∙ ap option_copied_mut c.in-Some.is in
    let same = set_same c.self.inside.entries.entries c.args.place c.in-Some.gathered.now there in
    on_err_from c.from_residual.result _ (rw (sym c.self.view_is, c.in_err-change.ensures.err) (λ n. record { limits = c.self.inside.limits; outputs = same n }))

pub emitted_points-requires : goal.emitted_points-requires
emitted_points-requires c =
    let old : Held = record { limits = c.self.inside.limits; outputs = c.self.inside.entries.entries } in
    let there = sym c.get_index_mut.ensures.value ∙ ap option_copied_mut c.in-Some.is in
    let room = rw (sym c.self.view_is) at c.requires.room in
    let ch = changed old c.args.place c.args.start c.args.point c.in-Some.gathered.now c.take.new.self c.in_ok-change.change (keeps_own _ _ _ c.self.invariant) there c.requires.moment room c.in_ok-change.ensures.change in
    omega (arith, ch.most, c.self.invariant.count, c.self.invariant.few, c.self.invariant.most)

pub overflow_sub-self : goal.overflow_sub-self
overflow_sub-self c =
    let old : Held = record { limits = c.self.inside.limits; outputs = c.self.inside.entries.entries } in
    let there = sym c.get_index_mut.ensures.value ∙ ap option_copied_mut c.in-Some.is in
    let room = rw (sym c.self.view_is) at c.requires.room in
    let ch = changed old c.args.place c.args.start c.args.point c.in-Some.gathered.now c.take.new.self c.in_ok-change.change (keeps_own _ _ _ c.self.invariant) there c.requires.moment room c.in_ok-change.ensures.change in
    omega (arith, c.emitted_points.ensures, ch.most, c.self.invariant.count)

pub invariant_of-self-2 : goal.invariant_of-self-2
invariant_of-self-2 c =
    let old : Held = record { limits = c.self.inside.limits; outputs = c.self.inside.entries.entries } in
    let there = sym c.get_index_mut.ensures.value ∙ ap option_copied_mut c.in-Some.is in
    let room = rw (sym c.self.view_is) at c.requires.room in
    let ch = changed old c.args.place c.args.start c.args.point c.in-Some.gathered.now c.take.new.self c.in_ok-change.change (keeps_own _ _ _ c.self.invariant) there c.requires.moment room c.in_ok-change.ensures.change in
    rw (c.emitted_points.ensures, c.self.invariant.count) ch.kept

pub returns-clause-ok : goal.returns-clause-ok
returns-clause-ok c =
    let old : Held = record { limits = c.self.inside.limits; outputs = c.self.inside.entries.entries } in
    let there = sym c.get_index_mut.ensures.value ∙ ap option_copied_mut c.in-Some.is in
    let room = rw (sym c.self.view_is) at c.requires.room in
    let ch = changed old c.args.place c.args.start c.args.point c.in-Some.gathered.now c.take.new.self c.in_ok-change.change (keeps_own _ _ _ c.self.invariant) there c.requires.moment room c.in_ok-change.ensures.change in
    rw (sym c.self.view_is) ch.at_place

pub returns-clause-emitted : goal.returns-clause-emitted
returns-clause-emitted c =
    let old : Held = record { limits = c.self.inside.limits; outputs = c.self.inside.entries.entries } in
    let there = sym c.get_index_mut.ensures.value ∙ ap option_copied_mut c.in-Some.is in
    let room = rw (sym c.self.view_is) at c.requires.room in
    let ch = changed old c.args.place c.args.start c.args.point c.in-Some.gathered.now c.take.new.self c.in_ok-change.change (keeps_own _ _ _ c.self.invariant) there c.requires.moment room c.in_ok-change.ensures.change in
    ch.emitted

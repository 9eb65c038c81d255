use Rattle.std.proofs.Common.{◌∙◌, ap, sym}
use Rattle.std.specs.Option.{option_copied_mut}
use Rattle.aggregate_front.specs.Emitting.{Held}
use Rattle.aggregate_front.proofs.HeldLemmas.{is_there, popped, some_is_none, undone_at, undone_by, within_at}
use Rattle.aggregate_front.proofs.outputs.Outputs.undo.Goals as goal

pub invariant_of-self : goal.invariant_of-self
invariant_of-self c =
    let now : Held = record { limits = c.self.inside.limits; outputs = c.self.inside.entries.entries } in
    let req = rw (sym c.self.view_is) at c.requires in
    let last = popped c.self.inside.entries.entries c.pop.new.self.entries c.pop.result c.args.deed c.pop.ensures.entries c.pop.ensures.found.1 req.1.within (sym c.is_made.ensures ∙ c.if-is_made.true) in
    rw c.emitted_points-emitted.ensures (undone_by req.0 now c.self.inside.points c.args.deed c.pop.new.self.entries c.self.invariant req.1 last).kept

pub returns-then-is_made : goal.returns-then-is_made
returns-then-is_made c =
    let now : Held = record { limits = c.self.inside.limits; outputs = c.self.inside.entries.entries } in
    let req = rw (sym c.self.view_is) at c.requires in
    let last = popped c.self.inside.entries.entries c.pop.new.self.entries c.pop.result c.args.deed c.pop.ensures.entries c.pop.ensures.found.1 req.1.within (sym c.is_made.ensures ∙ c.if-is_made.true) in
    rw (sym c.self.view_is) (λ before did. (undone_by before now c.self.inside.points c.args.deed c.pop.new.self.entries c.self.invariant did last).is)

pub unreachable-requires : goal.unreachable-requires
unreachable-requires c =
    let req = rw (sym c.self.view_is) at c.requires in
    let there = is_there c.self.inside.entries.entries c.args.deed (sym c.is_made.ensures ∙ c.if-is_made.false) req.1.within in
    let none = sym there.1 ∙ sym c.get_index_mut.ensures.value ∙ ap option_copied_mut c.in_default.is in
    some_is_none none

pub undo-requires : goal.undo-requires
undo-requires c =
    let req = rw (sym c.self.view_is) at c.requires in
    let there = sym c.get_index_mut.ensures.value ∙ ap option_copied_mut c.in-Some.is in
    within_at c.self.inside.entries.entries c.in-Some.gathered.now c.args.deed there (sym c.is_made.ensures ∙ c.if-is_made.false) req.1.within

pub invariant_of-self-2 : goal.invariant_of-self-2
invariant_of-self-2 c =
    let now : Held = record { limits = c.self.inside.limits; outputs = c.self.inside.entries.entries } in
    let req = rw (sym c.self.view_is) at c.requires in
    let there = sym c.get_index_mut.ensures.value ∙ ap option_copied_mut c.in-Some.is in
    let last = undone_at c.self.inside.entries.entries c.in-Some.gathered.now c.args.deed there (sym c.is_made.ensures ∙ c.if-is_made.false) in
    rw (c.emitted_points-emitted.ensures, c.undo.ensures) (undone_by req.0 now c.self.inside.points c.args.deed _ c.self.invariant req.1 last).kept

pub returns : goal.returns
returns c =
    let now : Held = record { limits = c.self.inside.limits; outputs = c.self.inside.entries.entries } in
    let there = sym c.get_index_mut.ensures.value ∙ ap option_copied_mut c.in-Some.is in
    let last = undone_at c.self.inside.entries.entries c.in-Some.gathered.now c.args.deed there (sym c.is_made.ensures ∙ c.if-is_made.false) in
    rw (sym c.self.view_is, c.undo.ensures) (λ before did. (undone_by before now c.self.inside.points c.args.deed _ c.self.invariant did last).is)
